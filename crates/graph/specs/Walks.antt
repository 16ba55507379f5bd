-- Walks, over the keys and each vertex's two ends: what it answers on Front and on Back. Assumes nothing.
use Rattle.std.specs.Prelude.{ℕ, zero, suc, Bool, true, false, cond, not, ◌&&◌, List, [], ◌∷◌, eqb, length, get_or, set}
use Rattle.dna.specs.Letters.{complement}
use Rattle.kmer.specs.Kmer.{rc, canon, is_canon, forward}
use Rattle.state.specs.declared.Side.{Side}
use Rattle.state.specs.declared.Side.TheVariants.{Front, Back}
use Rattle.state.specs.Counted.{Kind, opposite, same_side, edge_at}
use Rattle.graph.specs.declared.Step.{Step}
use Rattle.graph.specs.declared.Step.TheVariants.{Next, Stop, Missing}
use Rattle.graph.specs.declared.StopReason.TheVariants.{NoEdge, SeveralEdges, BranchingAhead, VisitedAhead}
use Rattle.graph.specs.Table.{rank, stored}

-- The edge of each side: E, one base, or N.
pub record Ends : Type 0 where
  pub front : ℕ
  pub back : ℕ

-- The ends that a word of counters gives at a cutoff.
abbrev pub ends_of : Kind → ℕ → ℕ → Ends
ends_of κ cutoff w = record { front = edge_at κ cutoff w Front; back = edge_at κ cutoff w Back }

abbrev pub end_on : Side → Ends → ℕ
end_on Front e = e.front
end_on Back e = e.back

-- The edge of vertex v on side s.
abbrev pub edge : List Ends → ℕ → Side → ℕ
edge es v s = end_on s (get_or es v (record { front = 5; back = 5 }))

-- Isolated: no retained edge on either side.
abbrev pub isolated : List Ends → ℕ → Bool
isolated es v = eqb (edge es v Front) 5 && eqb (edge es v Back) 5

-- A vertex is visited where its mark is 1.
abbrev pub visited : List ℕ → ℕ → Bool
visited marks v = eqb (get_or marks v 0) 1

-- Vertex v as a walk sees it that leaves by side s: canonical by Back, its reverse complement by Front.
abbrev pub seen : ℕ → List ℕ → ℕ → Side → ℕ
seen K ks v Front = rc K (get_or ks v 0)
seen K ks v Back = get_or ks v 0

-- The base that an edge appends: on Front it is complemented.
abbrev pub leaving : Side → ℕ → ℕ
leaving Front e = complement e
leaving Back e = e

-- The entrance of a k-mer: Front if it is seen canonical, else Back.
abbrev pub entrance : ℕ → ℕ → Side
entrance K y = cond (is_canon K y) Front Back

-- What a walk leaves: the bases that it appended, the marks, and the step at which it ended.
pub record Walk : Type 0 where
  pub bases : List ℕ
  pub marks : List ℕ
  pub last : Step

-- The walk closed a cycle.
abbrev pub closed : Step → Bool
closed (Next v s b) = false
closed (Stop NoEdge) = false
closed (Stop SeveralEdges) = false
closed (Stop BranchingAhead) = false
closed (Stop (VisitedAhead c)) = c
closed Missing = false

-- The walk came to a vertex that is not stored.
abbrev pub missing : Step → Bool
missing (Next v s b) = false
missing (Stop r) = false
missing Missing = true

-- A walk from vertex a by side start, over the keys ks and their ends es.
module _ (K : ℕ) (ks : List ℕ) (es : List Ends) (a : ℕ) (start : Side) where
  -- Vertex w, come to by base b, would be entered by side t: the walk stops if that side retains more than one edge, or if the
  -- vertex is visited, which closes a cycle if it is the anchor, come back to by the side opposite the start; else it goes on by
  -- the opposite side.
  unfoldable pub enter : List ℕ → ℕ → Side → ℕ → Step
  enter marks w t b =
      cond (eqb (edge es w t) 4) (Stop BranchingAhead)
      (cond (visited marks w) (Stop (VisitedAhead (eqb w a && not (same_side t start))))
      (Next w (opposite t) b))

  -- The k-mer y, come to by base b, is looked up.
  unfoldable pub arrive : List ℕ → ℕ → ℕ → Step
  arrive marks y b = cond (stored ks (canon K y)) (enter marks (rank ks (canon K y)) (entrance K y) b) Missing

  -- Vertex v is left by side s: by its single retained edge, or the walk stops.
  unfoldable pub step : List ℕ → ℕ → Side → Step
  step marks v s =
      let e = edge es v s in
      cond (eqb e 5) (Stop NoEdge)
      (cond (eqb e 4) (Stop SeveralEdges)
      (arrive marks (forward K (seen K ks v s) (leaving s e)) (leaving s e)))

  -- At most so many steps, the first of them given.
  unfoldable pub follow : ℕ → Step → List ℕ → Walk
  follow zero st marks = record { bases = []; marks = marks; last = st }
  follow (suc most) (Next v s b) marks =
      let m = set marks v 1 in
      let r = follow most (step m v s) m in
      record { bases = b ∷ r.bases; marks = r.marks; last = r.last }
  follow (suc most) (Stop why) marks = record { bases = []; marks = marks; last = Stop why }
  follow (suc most) Missing marks = record { bases = []; marks = marks; last = Missing }

  -- The walk: it marks its vertex and goes on; as many steps as there are vertices are enough.
  unfoldable pub walk : List ℕ → Walk
  walk marks = let m = set marks a 1 in follow (length ks) (step m a start) m

-- Opens this file's definitions to a proof that computes.
unfoldable pub open_walks : Unit {0}
unfolding enter arrive step follow walk
open_walks = tt
