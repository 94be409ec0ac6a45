-- What the reader's answers mean.
use Rattle.std.specs.Prelude.{ℕ, List, map}
use Rattle.std.specs.Option.{option_map}
use Rattle.requests.specs.Requests as asked
use Rattle.requests.specs.declared.occurrences.Occurrence.{Occurrence}
use Rattle.requests.specs.declared.occurrences.Occurrences.{Occurrences}
use Rattle.requests.specs.Limits.{value_limit}
use Rattle.tlcp.specs.Bounds as bounds
use Rattle.tlcp.specs.declared.bounded.Bounded.{Bounded}

abbrev pub word_text : Bounded value_limit → List ℕ
word_text = bounds.bounded_text

abbrev pub occurrence_in : Occurrence → asked.Occurrence
occurrence_in p = record { at = p.at; value_at = p.value_at; text = word_text p.word }

abbrev pub occurrences_in : Occurrences → asked.Occurrences
occurrences_in ps = map (option_map occurrence_in) ps.slots
