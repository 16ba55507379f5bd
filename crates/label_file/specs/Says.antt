-- What the answers of this crate say, and what its parts do. Assumes nothing.
use Rattle.std.specs.Prelude.{ℕ, suc, ◌+◌, ◌≤◌, ◌≡◌, true, cond, List, [], drop}
use Rattle.std.specs.Prelude.{Option, Some, None, Result, Ok, Err}
use Rattle.dna.specs.Answer.{Answer, gives, refuses, Filled}
use Rattle.dna.specs.declared.NoRoom.{NoRoom}
use Rattle.kmer.specs.Kmer.{ok_k}
use Rattle.label_index.specs.Entries.{listed, within}
use Rattle.graph.specs.Adding.{Edges}
use Rattle.graph.specs.Several.{Several}
use Rattle.rules.specs.Verdict.{yes, no}
use Rattle.judging.specs.declared.Broken.{Broken}
use Rattle.label_file.specs.LabelFile.{damaged, holds, k_in, cutoff_in, file_of, labels_of}
use Rattle.label_file.specs.Output.{Buffers, Left, decimal, refusal, refused}
use Rattle.label_file.specs.Judged.{verdict_line}
use Rattle.label_file.specs.Reasons.{number_of, Numbers}
use Rattle.label_file.specs.declared.form.Head.{Head}
use Rattle.label_file.specs.declared.list.Taken.{Taken}
use Rattle.label_file.specs.declared.refusal.Reason.{Reason}
use Rattle.label_file.specs.declared.refusal.Reason.TheVariants as reason
use Rattle.label_file.specs.declared.refusal.Refusal.{Refusal}

-- How many bytes of the text are to be printed; 11 where not even a line fits it.
abbrev pub list_answer : Result ℕ NoRoom → Answer ℕ
list_answer (Ok n) = gives n
list_answer (Err e) = refuses 11 []

-- A call that fills the text: its answer, and the text at exit.
pub record Fills (r : Result ℕ NoRoom) (text : List ℕ) (f : Filled) : Type 0 where
  pub answer : list_answer r ≡ f.answer
  pub text_after : text ≡ f.slice

-- The whole call: its answer, and the buffers at exit.
pub record Lists (r : Result ℕ NoRoom) (b : Buffers) (l : Left) : Type 0 where
  pub answer : list_answer r ≡ l.answer
  pub after : b ≡ l.buffers

-- Each record of a file is as it should be.
abbrev pub Sound : List ℕ → Type 0
Sound file = file_of file ≡ holds (k_in file) (cutoff_in file) (labels_of (file_of file))

-- What the check of the form says of a file.
abbrev pub form_says : Result (Unit {0}) Refusal → List ℕ → Type 0
form_says (Ok u) file = Sound file
form_says (Err e) file = (e.reason ≡ reason.Damaged) × (file_of file ≡ damaged e.at)

-- What is done with K, the cutoff, the labels and the buffers.
abbrev pub Doing : Type 0
Doing = ℕ → ℕ → List (List ℕ) → Buffers → Left

-- It is done with a file whose form and whose K are right, as `output` and `judgement` have it.
abbrev pub on_file : Doing → Buffers → List ℕ → Left
on_file doing b file = elim (file_of file) [
  | damaged i ↦ refused 13 i b
  | holds K cutoff labels ↦ cond (ok_k K) (doing K cutoff labels b) (refused 1 0 b)
]

-- What the form of a file and its K say of whatever is to be done with it: by which K and cutoff it is done, or that it
-- is refused.
abbrev pub head_says : Result Head Refusal → List ℕ → Type 0
head_says (Ok h) file =
    Sound file
    × ((doing : Doing) (b : Buffers) → on_file doing b file ≡ doing h.k h.cutoff (labels_of (file_of file)) b)
head_says (Err e) file =
    (doing : Doing) (b : Buffers) → on_file doing b file ≡ refused (number_of e.reason) e.at b

-- An index of a file's labels, each of which lies within the file.
pub record Indexes (file : List ℕ) (count : ℕ) (starts lengths : List ℕ) : Type 0 where
  pub labels : listed count file starts lengths ≡ labels_of (file_of file)
  pub inside : within file count starts lengths ≡ true
  pub few : count ≤ 4096

-- The number stored and the number of records, or the refusal and its record. A label with m before it stands in record
-- m + 1.
abbrev pub taking_says : Result Taken Refusal → Several → Type 0
taking_says (Ok t) s =
    ((e : Edges) × (s.answer ≡ gives e)) × (t.vertices ≡ s.stored) × (t.records ≡ suc s.labels)
taking_says (Err e) s = Numbers s.answer e.reason × (e.at ≡ suc s.labels)

-- Labels added: what is said of them, and the table's slices at exit.
pub record Takes (r : Result Taken Refusal) (keys counts : List ℕ) (s : Several) : Type 0 where
  pub says : taking_says r s
  pub keys_after : keys ≡ s.keys
  pub counts_after : counts ≡ s.counts

-- A refusal after p records.
abbrev pub at_record : ℕ → Result ℕ Reason → Result ℕ Refusal
at_record p (Ok n) = Ok n
at_record p (Err e) = Err (record { reason = e; at = p })

-- What is left where the text was filled, or where the line of a refusal is still to be put into it.
abbrev pub Leaves : Result ℕ Refusal → Buffers → Left → Type 0
Leaves (Ok n) b l = l ≡ record { answer = gives n; buffers = b }
Leaves (Err e) b l = l ≡ refused (number_of e.reason) e.at b

-- The line of a judgement.
abbrev pub line_of : Result (Option Broken) Refusal → List ℕ
line_of (Ok None) = verdict_line yes
line_of (Ok (Some b)) = verdict_line (no b.rule b.label)
line_of (Err e) = refusal (number_of e.reason) e.at

-- A number's digits put in front of what stands from a place on; r is the place of the first.
pub record Prefixes (x : ℕ) (s : List ℕ) (at r : ℕ) (s' : List ℕ) : Type 0 where
  pub text : drop r s' ≡ decimal 20 x (drop at s)
  pub lower : r ≤ at
  pub most : at ≤ r + 20
