-- What the answer of this crate says in the numbers of documents 01 and 02. Assumes nothing.
use Rattle.std.specs.Prelude.{◌≡◌, ℕ, List, [], Result, Ok, Err}
use Rattle.dna.specs.Answer.{Answer, gives, refuses, Filled}
use Rattle.panel.specs.declared.PanelError.{PanelError}
use Rattle.panel.specs.declared.PanelError.TheVariants.{OutOfProfile, WrongBounds, OutOfLabels, NoRoom}

-- The number of labels answered, or why none were.
abbrev pub panel_answer : Result ℕ PanelError → Answer ℕ
panel_answer (Ok n) = gives n
panel_answer (Err OutOfProfile) = refuses 26 []
panel_answer (Err WrongBounds) = refuses 27 []
panel_answer (Err OutOfLabels) = refuses 12 []
panel_answer (Err NoRoom) = refuses 28 []

-- The call for a panel: its answer, and the slice of starts at exit.
pub record Panels (r : Result ℕ PanelError) (out : List ℕ) (f : Filled) : Type 0 where
  pub answer : panel_answer r ≡ f.answer
  pub slice : out ≡ f.slice
