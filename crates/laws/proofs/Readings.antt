-- The windows of a label are the k-mers of the places that its walks were at, on one strand or the other. Assumes nothing.
use mathlib.Core.Path.{◌≡◌, refl, sym, ap, ap₂, ◌∙◌}
use mathlib.Core.Bool.{true}
use mathlib.Core.List.{List, ◌∷◌, ◌++◌, map, reverse, append_assoc}
use Prim.Native.Nat.{ℕ, suc, ◌+◌, ◌^◌, ◌≤◌, ◌<◌}
use native.Mathlib.Omega.{arith}
use lib.ListN.{length, get_or, length-append, length-map}
use lib.Seq.{take_at}
use Rattle.dna.specs.Letters.{letter_of, reverse_complement}
use Rattle.dna.proofs.Reversal.{length_reverse_complement}
use Rattle.kmer.specs.Kmer.{packed, rc, forward, letters}
use Rattle.kmer.proofs.Strands.{rc_rc}
use Rattle.kmer.proofs.Turned.{rc_lt}
use Rattle.kmer.proofs.Spelling.{length_letters}
use Rattle.kmer.proofs.Texts.{packed_letters, bases_letters, letters_rc}
use Rattle.kmer.proofs.Windows.{bases_append}
use Rattle.state.specs.declared.Side.{Side}
use Rattle.state.specs.declared.Side.TheVariants.{Front, Back}
use Rattle.graph.specs.declared.Step.{Step}
use Rattle.graph.specs.Table.{fit_from}
use Rattle.graph.specs.Sightings.{windows}
use Rattle.graph.specs.Walks.{Ends, edge, seen}
use Rattle.graph.specs.Labels.{lesser}
use Rattle.graph.proofs.Lookup.{key_at_lem}
use Rattle.laws.specs.Trails.{Place, Trail, Trail.ends, Trail.goes}
use Rattle.laws.specs.Tours.{Piece, appended, kmers, reading, read_kmers, Taken, Taken.round, Taken.straight}
use Rattle.laws.specs.Windows.{windows_from, windows_of, onward, Codes}
use Rattle.laws.proofs.Steps.{came, came_lt, came_forward, came_base}
use Rattle.laws.proofs.Windows.{bases_codes, turn_append, windows_behind, windows_within, windows_onward, windows_but_last}

abbrev bases : List Place → List ℕ
bases ps = map (λ (p : Place). p.base) ps

module _ (K : ℕ) (ks : List ℕ) (es : List Ends) (known : (v : ℕ) (s : Side) → v < length ks → edge es v s ≤ 5) (a : ℕ) (start : Side) where
  -- A walk's k-mers follow one another by the bases that it appends.
  trail_onward : {marks after : List ℕ} {v : ℕ} {s : Side} {ps : List Place} {st : Step} → Trail K ks es a start marks v s ps after st
      → kmers K ks ps ≡ onward K (seen K ks v s) (bases ps)
  unfolding onward
  trail_onward (ends e h) = refl
  trail_onward (goes {marks = marks} {v = v} {u = u} {b = b} {s = s} {t = t} {ps = ps} e r) =
      let f : seen K ks u t ≡ forward K (seen K ks v s) b = sym (came_forward K ks es (came K ks es a start marks v s e)) in
      ap₂ (λ (y : ℕ) (ys : List ℕ). y ∷ ys) f (trail_onward r ∙ ap (λ (y : ℕ). onward K y (bases ps)) f)

  trail_codes : {marks after : List ℕ} {v : ℕ} {s : Side} {ps : List Place} {st : Step} → Trail K ks es a start marks v s ps after st
      → v < length ks → Codes (bases ps)
  trail_codes (ends e h) l = tt
  trail_codes (goes {marks = marks} {v = v} {s = s} e r) l =
      let c = came K ks es a start marks v s e in
      (came_base K ks es c (known v s l), trail_codes r (came_lt K ks es c))

-- What the walks of a piece come to.
pub record Spelt (K : ℕ) (ks : List ℕ) (p : Piece) : Type 0 where
  pub back_codes : Codes (bases p.back)
  pub front_codes : Codes (bases p.front)
  pub back_kmers : kmers K ks p.back ≡ onward K (get_or ks p.anchor 0) (bases p.back)
  pub front_kmers : kmers K ks p.front ≡ onward K (rc K (get_or ks p.anchor 0)) (bases p.front)

module _ (K : ℕ) (x : ℕ) (h : x < 4 ^ K) where
  -- A k-mer's letters behind the turned letters of what follows its reverse complement.
  turned_letters : (f : List ℕ) → reverse_complement (letters K (rc K x) ++ f) ≡ reverse_complement f ++ letters K x
  turned_letters f =
      turn_append (letters K (rc K x)) f
      ∙ ap (λ (l : List ℕ). reverse_complement f ++ l) (sym (letters_rc K (rc K x)) ∙ ap (letters K) (rc_rc K x h))

module _ (K : ℕ) (ks : List ℕ) (p : Piece) (small : get_or ks p.anchor 0 < 4 ^ K) where
  abbrev x : ℕ
  x = get_or ks p.anchor 0

  -- A label has K letters and one for each place.
  pub reading_length : length (reading K ks p) ≡ length p.front + (K + length p.back)
  unfolding reading
  reading_length =
      omega (
        arith,
        length-append (reverse_complement (appended p.front)) (letters K x ++ appended p.back),
        length-append (letters K x) (appended p.back),
        length_reverse_complement (appended p.front),
        length_letters K x,
        length-map (bases p.front) letter_of,
        length-map p.front (λ (q : Place). q.base),
        length-map (bases p.back) letter_of,
        length-map p.back (λ (q : Place). q.base),
      )

  module _ (one : 1 ≤ K) (g : Spelt K ks p) where
    first_windows : windows_from K (length (reverse_complement (appended p.front))) (reading K ks p) ≡ reverse (map (rc K) (kmers K ks p.front))
    unfolding reading
    first_windows =
        let fs = bases p.front in
        let f = appended p.front in
        let u = letters K (rc K x) ++ appended p.front in
        let m : length (reverse_complement (appended p.front)) ≡ length (bases p.front) =
        length_reverse_complement (appended p.front) ∙ length-map (bases p.front) letter_of in
        let n : length (letters K (rc K x) ++ appended p.front) ≡ K + length (bases p.front) =
        length-append (letters K (rc K x)) (appended p.front) ∙ ap₂ ◌+◌ (length_letters K (rc K x)) (length-map (bases p.front) letter_of) in
        let room : length (reverse_complement f) + K ≤ suc (length (reverse_complement f ++ letters K x)) =
        omega (arith, length-append (reverse_complement f) (letters K x), length_letters K x) in
        ap (windows_from K (length (reverse_complement f))) (sym (append_assoc (reverse_complement f) (letters K x) (appended p.back)))
        ∙ windows_within K one (length (reverse_complement f)) (reverse_complement f ++ letters K x) (appended p.back) room
        ∙ ap₂ (windows_from K) m (sym (turned_letters K x small f))
        ∙ windows_but_last K one (length fs) u n (bases_append (letters K (rc K x)) f (bases_letters K (rc K x)) (bases_codes fs g.front_codes))
        ∙ ap (λ (ws : List ℕ). reverse (map (rc K) ws))
        (windows_onward K one (letters K (rc K x)) fs (length_letters K (rc K x)) (bases_letters K (rc K x)) g.front_codes
        ∙ ap (λ (y : ℕ). onward K y fs) (packed_letters K (rc K x) (rc_lt K x)) ∙ sym g.front_kmers)

    last_windows : windows_from K (suc (length (bases p.back))) (letters K x ++ appended p.back) ≡ x ∷ kmers K ks p.back
    unfolding windows_from
    last_windows =
        let bs = bases p.back in
        ap₂ (λ (y : ℕ) (ys : List ℕ). y ∷ ys)
        (ap packed (take_at (letters K x) (appended p.back) K (length_letters K x)) ∙ packed_letters K x small)
        (windows_onward K one (letters K x) bs (length_letters K x) (bases_letters K x) g.back_codes
        ∙ ap (λ (y : ℕ). onward K y bs) (packed_letters K x small) ∙ sym g.back_kmers)

    -- The windows of a piece's text are its k-mers.
    pub reading_windows : windows_of K (reading K ks p) ≡ read_kmers K ks p
    unfolding reading
    reading_windows =
        let rf = reverse_complement (appended p.front) in
        let e : windows K (reading K ks p) ≡ length (reverse_complement (appended p.front)) + suc (length (bases p.back)) =
        omega (
          arith,
          reading_length,
          length_reverse_complement (appended p.front),
          length-map (bases p.front) letter_of,
          length-map p.front (λ (q : Place). q.base),
          length-map p.back (λ (q : Place). q.base),
        ) in
        ap (λ (m : ℕ). windows_from K m (reading K ks p)) e
        ∙ windows_behind K rf (letters K x ++ appended p.back) (suc (length (bases p.back)))
        ∙ ap₂ (λ (ws vs : List ℕ). ws ++ vs) first_windows last_windows

module _ (K : ℕ) (ks : List ℕ) (es : List Ends) (fit : fit_from K 0 ks ≡ true) (known : (v : ℕ) (s : Side) → v < length ks → edge es v s ≤ 5) where
  pub taken_spelt : {marks after l : List ℕ} {p : Piece} → Taken K ks es marks p after l → p.anchor < length ks → Spelt K ks p
  unfolding onward
  taken_spelt (round {a = a} t c e) h = record {
    back_codes = trail_codes K ks es known a Back t h;
    front_codes = tt;
    back_kmers = trail_onward K ks es known a Back t;
    front_kmers = refl;
  }
  taken_spelt (straight {a = a} t c t₂ e) h = record {
    back_codes = trail_codes K ks es known a Back t h;
    front_codes = trail_codes K ks es known a Front t₂ h;
    back_kmers = trail_onward K ks es known a Back t;
    front_kmers = trail_onward K ks es known a Front t₂;
  }

  -- The label is the smaller strand of the text.
  pub taken_label : {marks after l : List ℕ} {p : Piece} → Taken K ks es marks p after l → p.anchor < length ks → l ≡ lesser (reading K ks p)
  unfolding reading reverse_complement
  taken_label (round t c e) h = e
  taken_label (straight {a = a} {back = back} {front = front} t c t₂ e) h =
      e ∙ ap lesser
      (ap (λ (z : List ℕ). z ++ appended back) (turned_letters K (get_or ks a 0) (key_at_lem K ks fit a h).below (appended front))
      ∙ append_assoc (reverse_complement (appended front)) (letters K (get_or ks a 0)) (appended back))
