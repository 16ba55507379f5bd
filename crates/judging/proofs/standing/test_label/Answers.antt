use mathlib.Core.Path.{◌≡◌, refl, sym, ap, ◌∙◌}
use mathlib.Core.Bool.{Bool, false, ◌||◌}
use Prim.Native.Nat.{◌+◌, ◌≤◌}
use native.Mathlib.Omega.{arith}
use lib.ListN.{length}
use Rattle.lemmas.proofs.Tests.{or_on}
use Rattle.kmer.proofs.Bounds.{ok_bounds}
use Rattle.laws.proofs.Plain.{plain_bases}
use Rattle.marks.specs.Marks.{ends}
use Rattle.marks.specs.Ready.{keys_for}
use Rattle.judging.specs.Standing.{is_misplaced, is_bad}
use Rattle.judging.proofs.Counting.{testing_start, testing_found, testing_next, testing_joined, testing_end}
use Rattle.judging.proofs.Edges.{joining_start, joining_next, joining_end, still_fine}
use Rattle.judging.proofs.standing.test_label.Goals as goal
use Rattle.judging.proofs.standing.test_label.Goals.{in-BadStep, in-Fine}

pub loop-o-init : goal.loop-o-init
loop-o-init c =
    let a = c.args in
    let g = a.graph.now in
    record {
      none = refl;
      testing = testing_start a.label.now c.requires.0;
      joining = joining_start g.k (keys_for a.marks.now g.keys.now) (ends a.marks.now) a.label.now c.requires.1.1;
    }

pub test_window-requires : goal.test_window-requires
test_window-requires c =
    let h : c.args.graph.now.k ≤ length c.args.label.now = c.requires.1.1 in
    (c.loop-o.invariant.testing.ready, plain_bases c.args.label.now c.requires.1.0, omega (arith, c.loop-o-test.true))

pub returns-in-Misplaced : goal.returns-in-Misplaced
returns-in-Misplaced c =
    let h : c.args.graph.now.k ≤ length c.args.label.now = c.requires.1.1 in
    testing_found c.loop-o.invariant.testing (omega (arith, c.loop-o-test.true)) refl
    c.test_window.ensures.placed (ap is_misplaced c.in-Misplaced.is)

pub loop-o-preserved : goal.loop-o-preserved
loop-o-preserved c =
    let i = c.loop-o.invariant in
    let a = c.args in
    let g = a.graph.now in
    let h : g.k ≤ length a.label.now = c.requires.1.1 in
    let inside : c.loop-o.o + g.k ≤ length a.label.now = omega (arith, c.loop-o-test.true) in
    let next = λ (n : is_misplaced c.test_window.result ≡ false).
    testing_next i.testing (omega (arith, c.loop-o-test.true)) refl c.test_window.ensures.placed n in
    let joined = λ (n : is_misplaced c.test_window.result ≡ false) (worse : Bool)
    (w : worse ≡ (is_bad c.loop-o.found || is_bad c.test_window.result)).
    joining_next g.k (keys_for a.marks.now g.keys.now) (ends a.marks.now) a.label.now (ok_bounds g.k c.requires.0.ok).0
    (plain_bases a.label.now c.requires.1.0) c.loop-o.o inside i.joining
    (testing_joined i.testing c.test_window.ensures n) w in
    elim c.match-test_window.branch [
      | in-BadStep w ↦
          let n = ap is_misplaced w.in-BadStep.is in
          record {
            none = ap is_misplaced w.found-is;
            testing = next n;
            joining = joined n _ (ap is_bad w.found-is
                ∙ sym (or_on (is_bad c.loop-o.found) (ap is_bad w.in-BadStep.is)));
          }
      | in-Fine w ↦
          let n = ap is_misplaced w.in-Fine.is in
          record {
            none = ap is_misplaced w.found-is ∙ i.none;
            testing = next n;
            joining = joined n _ (ap is_bad w.found-is ∙ still_fine (is_bad c.loop-o.found) (ap is_bad w.in-Fine.is));
          }
    ]

pub returns : goal.returns
returns c =
    let i = c.loop-o.invariant in
    let a = c.args in
    let g = a.graph.now in
    let h : g.k ≤ length a.label.now = c.requires.1.1 in
    testing_end i.testing (omega (arith, c.loop-o-test.false)) c.loop-o.found i.none
    (λ done. joining_end g.k (keys_for a.marks.now g.keys.now) (ends a.marks.now) a.label.now i.joining
    (omega (arith, c.loop-o-test.false)) done)
