-- What the enums of this crate say: a kind by its layout, answers in the numbers of documents 01 and 02. Assumes
-- nothing.
use Rattle.std.specs.Prelude.{ℕ, Bool, [], Result, Ok, Err}
use Rattle.dna.specs.Answer.{Answer, gives, refuses}
use Rattle.dna.specs.Calls.{code_in}
use Rattle.dna.specs.declared.Base.{Base}
use Rattle.state.specs.Counted.{Kind, four_bits, presence}
use Rattle.state.specs.declared.EdgeFrequency.{EdgeFrequency}
use Rattle.state.specs.declared.EdgeKind.{EdgeKind}
use Rattle.state.specs.declared.EdgeKind.TheVariants as kind
use Rattle.state.specs.declared.EdgePresence.{EdgePresence}
use Rattle.state.specs.declared.NoBase.{NoBase}
use Rattle.state.specs.declared.WrongCutoff.{WrongCutoff}

-- The kind of a table's words.
abbrev pub kind_of : EdgeKind → Kind
kind_of kind.Counted = four_bits
kind_of kind.Presence = presence

-- The word afterwards, or that an edge was no base: of either kind, of counters, of presence bits.
abbrev pub word_answer : Result ℕ NoBase → Answer ℕ
word_answer (Ok w) = gives w
word_answer (Err e) = refuses 10 []

abbrev pub counting_answer : Result EdgeFrequency NoBase → Answer ℕ
counting_answer (Ok f) = gives f.packed
counting_answer (Err e) = refuses 10 []

abbrev pub marking_answer : Result EdgePresence NoBase → Answer ℕ
marking_answer (Ok p) = gives p.flags
marking_answer (Err e) = refuses 10 []

-- A count, or that no base was asked for.
abbrev pub frequency_answer : Result ℕ NoBase → Answer ℕ
frequency_answer (Ok n) = gives n
frequency_answer (Err e) = refuses 10 []

-- What presence bits are asked: the one edge as the code of its base, a number of edges, a test; or the refusal of
-- the cutoff.
abbrev pub edge_answer : Result Base WrongCutoff → Answer ℕ
edge_answer (Ok b) = gives (code_in b)
edge_answer (Err e) = refuses 15 []

abbrev pub number_answer : Result ℕ WrongCutoff → Answer ℕ
number_answer (Ok n) = gives n
number_answer (Err e) = refuses 15 []

abbrev pub test_answer : Result Bool WrongCutoff → Answer Bool
test_answer (Ok b) = gives b
test_answer (Err e) = refuses 15 []
