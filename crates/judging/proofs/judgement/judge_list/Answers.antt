-- Rule 1, then the rest over marks made of the counts. Assumes nothing.
use mathlib.Core.Path.{◌∙◌, ap}
use Prim.Native.Nat.{ℕ}
use lib.ListN.{length, replicate}
use Rattle.std.proofs.Common.{Ok}
use Rattle.state.specs.Says.{kind_of}
use Rattle.graph.specs.Table.{table_of}
use Rattle.graph.specs.Contraction.{ends_in}
use Rattle.rules.specs.Listing.{listing}
use Rattle.marks.specs.Ready.{keys_for}
use Rattle.marks.proofs.Made.{ready, clean}
use Rattle.judging.specs.Answers.{judge_answer}
use Rattle.judging.specs.Passing.{labels_in}
use Rattle.judging.proofs.Refusing.{first_broken, first_kept}
use Rattle.judging.proofs.judgement.judge_list.Goals as goal
use Rattle.judging.proofs.judgement.judge_list.Goals.{in-Some, in-None}

pub judge_directed-broken-requires : goal.judge_directed-broken-requires
judge_directed-broken-requires c =
    let a = c.args in (
      ready (kind_of a.kind) a.k a.cutoff a.keys.now a.counts.now a.marks.now c.requires.0
          c.digest.ensures,
      clean (kind_of a.kind) a.k a.cutoff a.keys.now a.counts.now a.marks.now c.requires.0
          c.digest.ensures,
      c.requires.1,
    )

pub returns : goal.returns
returns c =
    let a = c.args in
    let n = length a.marks.now in
    let ls = labels_in (listing a.k a.text.now) in
    let g = c.first_out.ensures a.k c.requires.1 in (
      elim c.match-first_out.branch [
        | in-Some w ↦
            ap (λ b. judge_answer (Ok b)) w.broken-is
            ∙ first_broken a.k (keys_for a.marks.now a.keys.now)
            (ends_in (kind_of a.kind) a.cutoff (table_of n a.keys.now a.counts.now)) ls g w.in-Some.is
        | in-None w ↦
            ap (λ b. judge_answer (Ok b)) w.broken-is
            ∙ first_kept (kind_of a.kind) a.k a.cutoff a.keys.now a.counts.now a.marks.now c.requires.0
            w.digest.ensures ls g w.in-None.is w.judge_directed-broken.ensures
      ],
      c.clear.ensures ∙ ap (λ (m : ℕ). replicate m 0) c.match-first_out.auto.marks,
    )
