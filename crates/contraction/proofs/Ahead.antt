-- The next label of the loop over all vertices: there is room for it, and it is written behind the others. Assumes
-- nothing.
use mathlib.Core.Path.{◌≡◌, sym, ap, ◌∙◌}
use mathlib.Core.List.{List, [], ◌∷◌, ◌++◌}
use Prim.Native.Nat.{ℕ, ◌+◌, ◌≤◌, ◌<◌}
use native.Mathlib.Omega.{arith}
use lib.ListN.{length, get_or, set, drop, length-append, length-set}
use Rattle.dna.specs.Text.{over}
use Rattle.dna.proofs.Overwriting.{over_one}
use Rattle.graph.specs.Labels.{Run, extract}
use Rattle.graph.specs.Contraction.{entries, end_to_end}
use Rattle.table.specs.Search.{key}
use Rattle.marks.specs.Marks.{ends}
use Rattle.marks.specs.Ready.{keys_for}
use Rattle.contraction.specs.Over.{run_in}
use Rattle.contraction.specs.Says.{WritesLabel, starts_of, lengths_of}
use Rattle.contraction.specs.Trail.{label_from}
use Rattle.contraction.specs.declared.Label.{Label}
use Rattle.contraction.proofs.Listed.{Listed, standing}
use Rattle.contraction.proofs.Appending.{end_to_end_snoc, length_starts, length_lengths, starts_snoc, lengths_snoc}
use Rattle.contraction.proofs.Placing.{over_pasted}
use Rattle.contraction.proofs.Standing.{takes_here, label_here, place_taken}
use Rattle.contraction.proofs.Running.{label_under, run_takes, extract_labels, run_grown, run_small}

-- There is room for the label of the next anchor and for its entry, and both are short enough for 32 bits.
pub record Ahead (K : ℕ) (keys trail : List ℕ) (from a labels at : ℕ) (buffer starts lengths : List ℕ) : Type 0 where
  pub room : at + length (label_from K (key keys a) (drop from trail)) ≤ length buffer
  pub small : at + length (label_from K (key keys a) (drop from trail)) ≤ 4128768
  pub start_room : labels < length starts
  pub length_room : labels < length lengths

module _ {K : ℕ} {keys ms trail buffer starts lengths : List ℕ} {labels at from a : ℕ}
    {buffer' starts' lengths' : List ℕ}
    (g : Listed K keys ms trail buffer starts lengths labels at from a buffer' starts' lengths')
    (l : a < length ms) (n : get_or trail from 0 ≡ 2 → ⊥) where
  abbrev ls : List (List ℕ)
  ls = (run_in K keys ms a).labels

  abbrev label : List ℕ
  label = label_under K (keys_for ms keys) (ends ms) (run_in K keys ms a).marks a

  label_is : label_from K (key keys a) (drop from trail) ≡ label
  label_is = label_here (standing g l) n

  taken : run_in K keys ms (a + 1) ≡ extract K (keys_for ms keys) (ends ms) (run_in K keys ms a) a
  taken = run_takes K (keys_for ms keys) (ends ms) a (takes_here (standing g l) n)

  labels_next : (run_in K keys ms (a + 1)).labels ≡ ls ++ (label ∷ [])
  labels_next = ap (λ (r : Run). r.labels) taken ∙ extract_labels K (keys_for ms keys) (ends ms) (run_in K keys ms a) a

  text_next : end_to_end (run_in K keys ms (a + 1)).labels ≡ end_to_end ls ++ label
  text_next = ap end_to_end labels_next ∙ end_to_end_snoc ls label

  total_next : length (end_to_end (run_in K keys ms (a + 1)).labels) ≡ at + length
      (label_from K (key keys a) (drop from trail))
  total_next = omega (
    arith,
    ap length text_next,
    length-append (end_to_end ls) label,
    g.writes.total,
    ap length label_is,
  )

  number_next : length (run_in K keys ms (a + 1)).labels ≡ labels + 1
  number_next = omega (arith, ap length labels_next, length-append ls (label ∷ []), g.writes.number)

  pub ahead : Ahead K keys trail from a labels at buffer' starts' lengths'
  ahead =
      let h = run_grown K (keys_for ms keys) (ends ms) (a + 1) (length ms) (omega arith) in
      record {
        room = omega (arith, total_next, h.total, g.roomy.bases_fit, g.long_buffer);
        small = omega (arith, total_next, run_small g.ready (a + 1) (omega arith));
        start_room = omega (arith, number_next, h.number, g.roomy.starts_fit, g.long_starts);
        length_room = omega (arith, number_next, h.number, g.roomy.lengths_fit, g.long_lengths);
      }

  pub listed_more : {w : Label} {buffer₂ : List ℕ} → length buffer₂ ≡ length buffer'
      → WritesLabel K (key keys a) trail from w buffer' at buffer₂
      → Listed K keys ms trail buffer starts lengths (labels + 1) (at + w.bases) w.end (a + 1) buffer₂
      (set starts' labels at) (set lengths' labels w.bases)
  listed_more {w} lb x =
      let u = g.writes in
      let v = g.writes.lists in
      record {
        ready = g.ready;
        trails = g.trails;
        roomy = g.roomy;
        below = omega arith;
        fewer = omega (arith, g.fewer);
        place = x.end ∙ place_taken (standing g l) n;
        long_buffer = lb ∙ g.long_buffer;
        long_starts = simp length-set g.long_starts;
        long_lengths = simp length-set g.long_lengths;
        writes = record {
          number = sym number_next;
          total = omega (arith, total_next, x.bases);
          lists = record {
            letters =
                x.letters ∙ rw (label_is, v.letters, u.total, over_pasted (end_to_end ls) buffer label)
                (ap (λ (s : List ℕ). over s buffer) (sym text_next));
            starts_after =
                over_one (starts_of (entries 0 ls)) starts labels at v.starts_after (u.number ∙ sym (length_starts ls))
                (omega (arith, ahead.start_room, g.long_starts))
                (ap (λ (ns : List (List ℕ)). starts_of (entries 0 ns)) labels_next ∙ starts_snoc ls label
                ∙ ap (λ (z : ℕ). starts_of (entries 0 ls) ++ (z ∷ [])) (sym u.total));
            lengths_after =
                over_one (lengths_of (entries 0 ls)) lengths labels w.bases v.lengths_after
                (u.number ∙ sym (length_lengths ls))
                (omega (arith, ahead.length_room, g.long_lengths))
                (ap (λ (ns : List (List ℕ)). lengths_of (entries 0 ns)) labels_next ∙ lengths_snoc ls label
                ∙ ap (λ (z : ℕ). lengths_of (entries 0 ls) ++ (z ∷ [])) (sym (x.bases ∙ ap length label_is)));
          };
        };
      }
