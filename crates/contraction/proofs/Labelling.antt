-- An anchor's label from its two walks: its length, whether a vertex was missing, and the marks that the walks leave.
-- Assumes nothing.
use mathlib.Core.Path.{◌≡◌, refl, sym, ap, ◌∙◌}
use mathlib.Core.Bool.{Bool, true, false, cond, or-true}
use mathlib.Core.List.{List, ◌++◌, map}
use Prim.Native.Nat.{ℕ, ◌+◌}
use native.Mathlib.Omega.{arith}
use lib.ListN.{length, get_or, length-append, length-map}
use Rattle.dna.specs.Letters.{letter_of, reverse_complement}
use Rattle.dna.proofs.Reversal.{length_reverse_complement}
use Rattle.kmer.specs.Kmer.{rc, letters}
use Rattle.kmer.proofs.Bounds.{ok_bounds}
use Rattle.kmer.proofs.Spelling.{length_letters}
use Rattle.state.specs.declared.Side.TheVariants.{Front, Back}
use Rattle.graph.specs.declared.Step.{Step}
use Rattle.graph.specs.declared.Step.TheVariants.{Next, Stop, Missing}
use Rattle.graph.specs.Walks.{Ends, Walk, walk, closed, missing}
use Rattle.graph.specs.Labels.{spelt, label_of, extract}
use Rattle.laws.proofs.Plain.{lesser_length}
use Rattle.marks.specs.Marks.{ends}
use Rattle.contraction.specs.Over.{walk_in, label_in}
use Rattle.contraction.specs.Says.{Walks, Extracts, Misses}
use Rattle.contraction.specs.Trail.{piece_in}
use Rattle.contraction.specs.declared.ContractError.TheVariants.{MissingVertex}
use Rattle.contraction.specs.declared.Walked.{Walked}
use Rattle.marks.proofs.Marking.{ends_length}
use Rattle.marks.specs.Ready.{keys_for, Ready}
use Rattle.contraction.proofs.Still.{walk_still}
use Rattle.contraction.proofs.Placing.{Placed}

spelt_length : (K x : ℕ) (w : Walk) → length (spelt K x w) ≡ K + length w.bases
spelt_length K x w =
    omega (arith, length-append (letters K x) (map letter_of w.bases), length_letters K x, length-map w.bases letter_of)

module _ (K : ℕ) (ks : List ℕ) (es : List Ends) (x : ℕ) (back front : Walk) where
  label_length : length (label_of K ks es x back front) ≡ cond (closed back.last) K
      (K + length front.bases) + length back.bases
  label_length =
      let turned = reverse_complement (spelt K (rc K x) front) in
      let text = cond (closed back.last) (spelt K x back) (turned ++ map letter_of back.bases) in
      lesser_length text ∙ go (closed back.last)
    where
      go : (t : Bool) → length (cond t (spelt K x back)
          (reverse_complement (spelt K (rc K x) front) ++ map letter_of back.bases))
          ≡ cond t K (K + length front.bases) + length back.bases
      go true = spelt_length K x back
      go false = omega (
        arith,
        length-append (reverse_complement (spelt K (rc K x) front)) (map letter_of back.bases),
        length_reverse_complement (spelt K (rc K x) front),
        spelt_length K (rc K x) front,
        length-map back.bases letter_of,
      )

-- A walk that closed a cycle came to no missing vertex.
closed_found : (st : Step) → closed st ≡ true → missing st ≡ false
closed_found (Next v s b) h = refl
closed_found (Stop why) h = refl
closed_found Missing h = sym h

module _ {K : ℕ} {keys ms : List ℕ} (r : Ready K keys ms) (a : ℕ) {b : Walked} {ms₁ : List ℕ}
    (back : Walks K keys ms a Back b ms₁) where
  abbrev B : Walk
  B = walk_in K keys ms a Back

  abbrev F : Walk
  F = walk K (keys_for ms keys) (ends ms) a Front B.marks

  label_long : {t : Bool} → closed b.last ≡ t → length (label_in K keys ms a) ≡ cond t K
      (K + length F.bases) + length B.bases
  label_long c =
      label_length K (keys_for ms keys) (ends ms) (get_or (keys_for ms keys) a 0) B F
      ∙ ap (λ (t : Bool). cond t K (K + length F.bases) + length B.bases) (ap closed (sym back.last) ∙ c)

  pub extracts_closed : closed b.last ≡ true → {trail trail' : List ℕ} {at end : ℕ}
      → end ≡ at + length (piece_in K keys ms a)
      → Placed trail at (piece_in K keys ms a) trail'
      → Extracts K keys ms a (record { bases = K + b.bases; end = end }) ms₁ trail at trail'
  unfolding extract
  extracts_closed h e p =
      let c : closed B.last ≡ true = ap closed (sym back.last) ∙ h in
      record {
        bases = omega (arith, label_long h, back.bases);
        missed = rw (closed_found B.last c, c);
        ends_kept = back.ends_kept;
        visits_after = rw c back.visits_after;
        few = omega (arith, back.few, r.few, (ok_bounds K r.ok).1);
        end = e;
        walks = p.cells;
      }

  pub misses_back : missing b.last ≡ true → Misses K keys ms a MissingVertex
  unfolding extract
  misses_back h = record { error = refl; missed = rw (← back.last, h) }

  -- The Front walk starts from the marks that the Back walk left.
  pub front_is : walk_in K keys ms₁ a Front ≡ F
  front_is =
      walk_still ms ms₁ back.ends_kept K keys a Front
      ∙ ap (λ (m : List ℕ). walk K (keys_for ms keys) (ends ms) a Front m) back.visits_after

  module _ {f : Walked} {ms₂ : List ℕ} (front : Walks K keys ms₁ a Front f ms₂) where
    front_last : f.last ≡ F.last
    front_last = front.last ∙ ap (λ (w : Walk). w.last) front_is

    pub misses_front : closed b.last ≡ false → missing f.last ≡ true → Misses K keys ms a MissingVertex
    unfolding extract
    misses_front c h = record { error = refl; missed = rw (← back.last, ← front_last, c, h) (or-true (missing b.last)) }

    pub extracts_open : closed b.last ≡ false → missing b.last ≡ false → missing f.last ≡ false
        → {trail trail' : List ℕ} {at end : ℕ} → end ≡ at + length (piece_in K keys ms a)
        → Placed trail at (piece_in K keys ms a) trail'
        → Extracts K keys ms a (record { bases = K + f.bases + b.bases; end = end }) ms₂ trail at trail'
    unfolding extract
    extracts_open h m n q p =
        let c : closed B.last ≡ false = ap closed (sym back.last) ∙ h in
        record {
          bases = omega (arith, label_long h, back.bases, front.bases, ap (λ (w : Walk). length w.bases) front_is);
          missed = rw (← back.last, ← front_last, h, m, n);
          ends_kept = front.ends_kept ∙ back.ends_kept;
          visits_after = front.visits_after ∙ rw (front_is, c);
          few = omega (arith, back.few, front.few, ends_length ms ms₁ back.ends_kept, r.few, (ok_bounds K r.ok).1);
          end = q;
          walks = p.cells;
        }
