-- The numbers of the refusals, as README.md has them. Assumes nothing.
use Rattle.std.specs.Prelude.{ℕ, ◌≡◌, List, []}
use Rattle.dna.specs.Answer.{Answer, gives, refuses}
use Rattle.label_file.specs.declared.refusal.Reason.{Reason}
use Rattle.label_file.specs.declared.refusal.Reason.TheVariants as reason

-- The number that is printed.
abbrev pub number_of : Reason → ℕ
number_of reason.UnsupportedK = 1
number_of reason.InvalidBase = 3
number_of reason.TooLong = 4
number_of reason.Unfit = 5
number_of reason.Full = 6
number_of reason.FewMarks = 7
number_of reason.MissingVertex = 8
number_of reason.ManyBases = 9
number_of reason.ManyBytes = 11
number_of reason.OutOfLabels = 12
number_of reason.Damaged = 13
number_of reason.WrongCutoff = 15
number_of reason.EvenK = 16
number_of reason.NoList = 17

-- The values beside a refusal.
abbrev pub besides : {A : Type 0} → Answer A → List ℕ
besides (gives a) = []
besides (refuses r vs) = vs

-- A call refuses for a reason: the number is the reason's.
abbrev pub Numbers : {A : Type 0} → Answer A → Reason → Type 0
Numbers a r = a ≡ refuses (number_of r) (besides a)
