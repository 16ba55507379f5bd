-- A k-mer that is only missing: its vertex is neither visited nor isolated. Assumes nothing.
use Prim.Native.Nat.{ℕ, ◌≤◌, ◌<◌}
use mathlib.Core.Path.{◌≡◌, sym, ap, ◌∙◌}
use mathlib.Core.Logic.{⊎_elim}
use mathlib.Core.Bool.{Bool, true, false, not, ◌&&◌}
use mathlib.Core.List.{List}
use native.Mathlib.Omega.{arith}
use borrow.Author.Tests.{eqb-true, eq-eqb, ltb-false, le-ltb, not-true}
use lib.Dec.{eqb}
use lib.ListN.{length, get_or}
use Rattle.lemmas.proofs.Tests.{both, never, or_first, or_second, same_bool}
use Rattle.lemmas.proofs.Numbers.{true_or_false}
use Rattle.graph.specs.Table.{rank, stored}
use Rattle.graph.specs.Walks.{visited, isolated}
use Rattle.graph.proofs.Rank.{stored_lt}
use Rattle.graph.proofs.Lookup.{at_stored, rank_at}
use Rattle.laws.specs.Windows.{occurrences}
use Rattle.marks.specs.Marks.{ends, visits}
use Rattle.marks.proofs.Marking.{ends_length}
use Rattle.marks.proofs.Still.{keys_marks}
use Rattle.rules.specs.Verdict.{is_live, lacks}
use Rattle.rules.proofs.Telling.{any_found, found_any}
use Rattle.rules.proofs.Standing.{key_stands}
use Rattle.marks.specs.Ready.{keys_for, Ready}
use Rattle.judging.specs.Standing.{Stood, stands_in, skipped, Lacking}

module _ {K : ℕ} {keys ms₀ ms : List ℕ} (ready : Ready K keys ms₀) (kept : ends ms ≡ ends ms₀) (ls : List (List ℕ))
    (s : Stood (keys_for ms₀ keys) ms (stands_in K ls)) {r : Bool} (l : Lacking ms r) where
  abbrev ks : List ℕ
  ks = keys_for ms₀ keys

  test : ℕ → Bool
  test x = is_live K ks (ends ms₀) x && eqb (occurrences K x ls) 0

  many : length ks ≡ length ms
  many = keys_marks ready ∙ sym (ends_length ms₀ ms kept)

  lack_on : r ≡ true → lacks K ks (ends ms₀) ls ≡ true
  unfolding lacks is_live test
  lack_on q =
      let o = l.one q in
      let v = o.0 in
      let h : v < length ks = omega (arith, many, o.1) in
      let x = get_or ks v 0 in
      let st = at_stored K ks ready.fits v h in
      let rk = rank_at K 0 ks ready.fits v h in
      let iso : isolated (ends ms₀) v ≡ false =
      rw (← kept) (or_second (visited (visits ms) v) (isolated (ends ms) v) o.2) in
      let vis : visited (visits ms) v ≡ false = or_first (visited (visits ms) v) (isolated (ends ms) v) o.2 in
      let z : occurrences K x ls ≤ 0 = ltb-false 0 (occurrences K x ls)
      (sym (s x st) ∙ ap (visited (visits ms)) rk ∙ vis) in
      let e : eqb (occurrences K x ls) 0 ≡ true = eq-eqb (occurrences K x ls) 0 (omega arith) in
      found_any test ks x (key_stands ks v h) (rw (st, rk, iso, e))

  lack_off : lacks K ks (ends ms₀) ls ≡ true → r ≡ true
  unfolding lacks is_live test
  lack_off q =
      let a = any_found test ks q in
      let x = a.one in
      let b = both (is_live K ks (ends ms₀) x) (eqb (occurrences K x ls) 0) a.passes in
      let d = both (stored ks x) (not (isolated (ends ms₀) (rank ks x))) b.0 in
      let h : rank ks x < length ms = omega (arith, many, stored_lt ks x d.0) in
      let iso : isolated (ends ms) (rank ks x) ≡ false = rw kept (not-true (isolated (ends ms₀) (rank ks x)) d.1) in
      let n : occurrences K x ls ≡ 0 = eqb-true (occurrences K x ls) 0 b.1 in
      let vis : visited (visits ms) (rank ks x) ≡ false = s x d.0 ∙ le-ltb 0 (occurrences K x ls) (omega arith) in
      let k : skipped ms (rank ks x) ≡ false = rw (vis, iso) in
      ⊎_elim (λ t. t) (λ t. never (skipped ms (rank ks x)) (l.none t (rank ks x) h) k) (true_or_false r)

  pub lacking_is : r ≡ lacks K ks (ends ms₀) ls
  lacking_is = same_bool r (lacks K ks (ends ms₀) ls) lack_on lack_off
