-- The words for the kinds of value.
use Rattle.std.specs.Prelude.{ℕ, List, [], ◌∷◌, codes, Option}
use Rattle.tlcp.specs.Dividing.{first_with}
use Rattle.follow.specs.declared.kind.Kind.{Kind}
use Rattle.follow.specs.declared.kind.Kind.TheVariants.{Text, Logic}

abbrev pub kind_word : Kind → List ℕ
kind_word Text = codes "text"
kind_word Logic = codes "logic"

abbrev pub kind_named : List ℕ → Option Kind
kind_named = first_with kind_word (Text ∷ Logic ∷ [])
