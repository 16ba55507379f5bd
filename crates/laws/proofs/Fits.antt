-- Contraction of every fit table in lent slices: its labels meet demand 3 but for the last sentence, the number of their bases is
-- bounded, and its marks tell which k-mers stand in them. Assumes nothing.
use mathlib.Core.Path.{◌≡◌, ap, subst}
use mathlib.Core.Bool.{true}
use mathlib.Core.List.{List}
use Prim.Native.Nat.{ℕ, ◌*◌, ◌≤◌, ◌<◌}
use native.Mathlib.Omega.{arith}
use lib.Dec.{leb}
use lib.ListN.{length, get_or}
use Rattle.lemmas.proofs.Tests.{both}
use Rattle.kmer.specs.Kmer.{ok_k}
use Rattle.kmer.proofs.Bounds.{ok_bounds}
use Rattle.state.specs.declared.Side.{Side}
use Rattle.state.specs.Counted.{Kind, edge_at}
use Rattle.state.proofs.Edges.{edge_le}
use Rattle.graph.specs.Table.{table_of, keys_of, fit_from, capacity, fit}
use Rattle.graph.specs.Walks.{Ends, edge}
use Rattle.graph.specs.Labels.{run}
use Rattle.graph.specs.Contraction.{end_to_end, ends_in}
use Rattle.graph.proofs.Accepted.{fit_room, fit_length}
use Rattle.laws.specs.Windows.{occurrences}
use Rattle.laws.specs.Demand.{Each, HoldsLive, in_order, Always}
use Rattle.laws.proofs.Found.{edge_is}
use Rattle.laws.proofs.Occurrences.{mark_occurs}
use Rattle.laws.proofs.Room.{run_room}
use Rattle.laws.proofs.Always.{run_live, always}

module _ (κ : Kind) (K cutoff n : ℕ) (keys counts : List ℕ) (f : fit K n keys counts ≡ true) where
  abbrev ks : List ℕ
  ks = keys_of n keys

  abbrev es : List Ends
  es = ends_in κ cutoff (table_of n keys counts)

  pub keys_fit : fit_from K 0 ks ≡ true
  keys_fit = (both (leb n (capacity keys counts)) (fit_from K 0 ks) f).1

  size : length ks ≡ n
  size = fit_length K n keys counts f

  -- A vertex has the edges that its counters say.
  pub edge_at_lem : (v : ℕ) (s : Side) → v < length ks → edge es v s ≡ edge_at κ cutoff (get_or counts v 0) s
  edge_at_lem v s h = edge_is κ cutoff n keys counts v s (omega (arith, size)) (omega (arith, fit_room K n keys counts f))

  -- Every edge is E, a base or N.
  pub edges_known : (v : ℕ) (s : Side) → v < length ks → edge es v s ≤ 5
  edges_known v s h = rw (edge_at_lem v s h) (edge_le κ cutoff (get_or counts v 0) s)

  module _ (ok : ok_k K ≡ true) where
    one : 1 ≤ K
    one = (ok_bounds K ok).0

    pub fit_always : Always K ks es (in_order (run K ks es n))
    fit_always = subst (λ (m : ℕ). Always K ks es (in_order (run K ks es m))) size (always K ks es one keys_fit edges_known)

    -- Every label of the run holds a k-mer that is not isolated.
    pub fit_live : Each (HoldsLive K ks es) (run K ks es n).labels
    fit_live = run_live K ks es one keys_fit edges_known n (omega (arith, size))

    -- The labels together hold at most n times K bases.
    pub fit_bases : length (end_to_end (run K ks es n).labels) ≤ K * n
    fit_bases = omega (arith, run_room K ks es one keys_fit edges_known n (omega (arith, size)), ap (λ (m : ℕ). K * m) size)

    -- A mark is 1 where the k-mer stands in a label, and else 0.
    pub fit_marks : (v : ℕ) → v < n → get_or (run K ks es n).marks v 0 ≡ occurrences K (get_or ks v 0) (run K ks es n).labels
    fit_marks v h = mark_occurs K ks es one keys_fit edges_known n (omega (arith, size)) v (omega (arith, size))
