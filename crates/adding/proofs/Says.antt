-- The definitions of what adding answers tell its cases apart, so its contracts allow one result and one content of
-- each slice. Assumes nothing.
use mathlib.Core.Path.{◌≡◌, refl, sym, ap, ◌∙◌}
use mathlib.Core.Bool.{cond}
use mathlib.Core.List.{List, [], ◌∷◌}
use Prim.Native.Nat.{ℕ}
use lib.Dec.{eqb}
use lib.ListN.{get_or}
use Rattle.std.specs.Prelude.{Result, Ok, Err}
use Rattle.dna.specs.Answer.{Answer, gives, refuses}
use Rattle.graph.specs.Adding.{Edges, Added}
use Rattle.graph.specs.Several.{Several}
use Rattle.adding.specs.declared.Addition.{Addition}
use Rattle.adding.specs.declared.AddError.{AddError}
use Rattle.adding.specs.declared.AddError.TheVariants as add
use Rattle.adding.specs.declared.Additions.{Additions}
use Rattle.adding.specs.declared.OutOfText.{OutOfText}
use Rattle.adding.specs.Says.{add_answer, Adds, labels_say, AddsLabels}

-- The case of an answer; adding has no refusal but 1, 3, 4, 5 and 6.
abbrev case_of : Answer Edges → Result Addition AddError
case_of (gives e) = Ok (record { edges = e.edges; stored = e.stored })
case_of (refuses r values) =
    let first = get_or values 0 0 in
    Err
    (get_or
    (add.Full ∷ add.UnsupportedK first ∷ add.Full ∷ add.InvalidBase first (get_or values 1 0) ∷ add.TooLong first
    ∷ add.Unfit ∷ [])
    r add.Full)

case_back : (a : Result Addition AddError) → case_of (add_answer a) ≡ a
case_back (Ok a) = refl
case_back (Err (add.UnsupportedK K)) = refl
case_back (Err (add.InvalidBase place byte)) = refl
case_back (Err (add.TooLong n)) = refl
case_back (Err add.Unfit) = refl
case_back (Err add.Full) = refl

pub add_inj : (a b : Result Addition AddError) → add_answer a ≡ add_answer b → a ≡ b
add_inj a b e = sym (case_back a) ∙ ap case_of e ∙ case_back b

pub adds_one : (r s : Result Addition AddError) {keys keys' counts counts' : List ℕ} {a : Added}
    → Adds r keys counts a → Adds s keys' counts' a → (r ≡ s) × (keys ≡ keys') × (counts ≡ counts')
adds_one r s t u =
    (add_inj r s (t.answer ∙ sym u.answer), t.keys_after ∙ sym u.keys_after, t.counts_after ∙ sym u.counts_after)

-- ---- many labels

-- 12 is no label's refusal.
abbrev tried : ℕ → ℕ → Result Addition AddError → Result Additions OutOfText
tried m stored last = Ok (record { labels = m; stored = stored; last = last })

abbrev labels_case : ℕ → ℕ → Answer Edges → Result Additions OutOfText
labels_case m stored (gives e) = tried m stored (case_of (gives e))
labels_case m stored (refuses r values) =
    cond (eqb r 12) (Err (record {})) (tried m stored (case_of (refuses r values)))

added_back : (m stored : ℕ) (last : Result Addition AddError)
    → labels_case m stored (add_answer last) ≡ tried m stored last
added_back m stored (Ok a) = refl
added_back m stored (Err (add.UnsupportedK K)) = refl
added_back m stored (Err (add.InvalidBase place byte)) = refl
added_back m stored (Err (add.TooLong n)) = refl
added_back m stored (Err add.Unfit) = refl
added_back m stored (Err add.Full) = refl

labels_back : (n : ℕ) (r : Result Additions OutOfText) (s : Several) → labels_say n r s
    → labels_case s.labels s.stored s.answer ≡ r
labels_back n (Ok a) s h = rw (← h.0, ← h.1, ← h.2) (added_back a.labels a.stored a.last)
labels_back n (Err e) s h = rw (← h.2)

-- What is said is fixed by the labels added, the number stored and the last answer.
pub labels_inj : (n : ℕ) (r s : Result Additions OutOfText) (a b : Several) → labels_say n r a → labels_say n s b
    → a.labels ≡ b.labels → a.stored ≡ b.stored → a.answer ≡ b.answer → r ≡ s
labels_inj n r s a b t u p q e =
    let c : labels_case a.labels a.stored a.answer ≡ labels_case b.labels b.stored b.answer = rw (p, q, e) in
    sym (labels_back n r a t) ∙ c ∙ labels_back n s b u

pub adds_labels_one : (n : ℕ) (r s : Result Additions OutOfText) {keys keys' counts counts' : List ℕ} {a : Several}
    → AddsLabels n r keys counts a → AddsLabels n s keys' counts' a → (r ≡ s) × (keys ≡ keys') × (counts ≡ counts')
adds_labels_one n r s {a = a} t u = (
  labels_inj n r s a a t.says u.says refl refl refl,
  t.keys_after ∙ sym u.keys_after,
  t.counts_after ∙ sym u.counts_after,
)
