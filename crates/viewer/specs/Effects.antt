-- What a message asks of a viewer.
use Rattle.std.specs.Prelude.{ℕ, List, [], slice_index_or}
use Rattle.tlcp.specs.Lines.{Argument, numbered, coded, worded, listed, piece_of, piece}
use Rattle.tlcp.specs.Parts.{Piece}
use Rattle.tlcp.specs.declared.tag.Tag.{Tag}
use Rattle.tlcp.specs.declared.tag.Tag.TheVariants.{U, Probe, Sync, Loop, Cons, Servname, Clientip}
use Rattle.tlcp.specs.declared.tag.Tag.TheVariants.{Reqok, Unsub, Conerr, End, Error, Eos, Subok}
use Rattle.tlcp.specs.declared.tag.Tag.TheVariants.{Ov, Conf, Reqerr, Conok}

pub data Effect : Type 0 where
  opens : ℕ → ℕ → Effect
  closes : ℕ → Effect
  updates : ℕ → Piece → Effect
  nothing : Effect

abbrev pub number_in : Argument → ℕ
number_in (numbered p n) = n
number_in (coded p z) = 0
number_in (worded p) = 0
number_in (listed p) = 0

abbrev pub argument : List Argument → ℕ → Argument
argument args i = slice_index_or args i (worded (piece [] 0))

abbrev pub effect_of : Tag → List Argument → Effect
effect_of Subok args = opens (number_in (argument args 0)) (number_in (argument args 2))
effect_of Unsub args = closes (number_in (argument args 0))
effect_of U args = updates (number_in (argument args 0)) (piece_of (argument args 2))
effect_of Probe args = nothing
effect_of Sync args = nothing
effect_of Loop args = nothing
effect_of Cons args = nothing
effect_of Servname args = nothing
effect_of Clientip args = nothing
effect_of Reqok args = nothing
effect_of Conerr args = nothing
effect_of End args = nothing
effect_of Error args = nothing
effect_of Eos args = nothing
effect_of Ov args = nothing
effect_of Conf args = nothing
effect_of Reqerr args = nothing
effect_of Conok args = nothing
