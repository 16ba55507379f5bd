-- The definitions of walks and labels, over keys and marks. Assumes nothing.
use Rattle.std.specs.Prelude.{ℕ, false, cond, List, [], get_or}
use Rattle.state.specs.declared.Side.{Side}
use Rattle.state.specs.declared.Side.TheVariants.{Front, Back}
use Rattle.graph.specs.declared.Step.{Step}
use Rattle.graph.specs.declared.Step.TheVariants.{Missing}
use Rattle.graph.specs.Table.{rank, stored}
use Rattle.graph.specs.Walks.{enter, arrive, step, Walk, walk}
use Rattle.graph.specs.Labels.{Run, label_of, extract, run}
use Rattle.marks.specs.Marks.{ends, visits}
use Rattle.marks.specs.Ready.{keys_for}

module _ (K : ℕ) (keys ms : List ℕ) where
  abbrev pub enter_in : ℕ → Side → ℕ → Side → ℕ → Step
  enter_in a start w t b = enter K (keys_for ms keys) (ends ms) a start (visits ms) w t b

  -- The k-mer y, canonical, is looked up; it would be entered by side t.
  abbrev pub look_in : ℕ → Side → ℕ → Side → ℕ → Step
  look_in a start y t b = cond (stored (keys_for ms keys) y) (enter_in a start (rank (keys_for ms keys) y) t b) Missing

  abbrev pub arrive_in : ℕ → Side → ℕ → ℕ → Step
  arrive_in a start y b = arrive K (keys_for ms keys) (ends ms) a start (visits ms) y b

  abbrev pub step_in : ℕ → Side → ℕ → Side → Step
  step_in a start v s = step K (keys_for ms keys) (ends ms) a start (visits ms) v s

  abbrev pub walk_in : ℕ → Side → Walk
  walk_in a start = walk K (keys_for ms keys) (ends ms) a start (visits ms)

  -- Anchor a by itself.
  abbrev pub extract_in : ℕ → Run
  extract_in a = extract K (keys_for ms keys) (ends ms) (record { marks = visits ms; labels = []; missed = false }) a

  -- Its label.
  abbrev pub label_in : ℕ → List ℕ
  label_in a =
      let back = walk_in a Back in
      label_of K (keys_for ms keys) (ends ms) (get_or (keys_for ms keys) a 0) back
      (walk K (keys_for ms keys) (ends ms) a Front back.marks)

  abbrev pub run_in : ℕ → Run
  run_in a = run K (keys_for ms keys) (ends ms) a
