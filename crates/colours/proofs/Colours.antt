-- The refusal 23 is given exactly where a rule is broken; over a sound list the colour at a vertex is that of the last
-- run at or before it, of which there is one and only one. Assumes nothing.
use mathlib.Core.Path.{◌≡◌, refl, sym, ap, ◌∙◌}
use mathlib.Core.Bool.{true, false, false≢true}
use mathlib.Core.List.{List, []}
use mathlib.Core.Logic.{◌⊎◌, inl, inr, ⊎_elim}
use Prim.Native.Nat.{ℕ, zero, suc, ◌^◌, ◌≤◌, ◌<◌}
use native.Mathlib.Omega.{arith}
use borrow.Author.Tests.{lt-ltb, le-ltb}
use lib.Dec.{ltb}
use lib.ListN.{length, get_or, drop, get_or-append}
use Rattle.std.specs.Prelude.{Result, Ok}
use Rattle.lemmas.proofs.Numbers.{lt_or_ge, true_or_false}
use Rattle.lemmas.proofs.Tests.{choose}
use Rattle.dna.specs.Text.{over}
use Rattle.dna.specs.Answer.{gives, refuses, Filled}
use Rattle.dna.proofs.Answers.{ungiven}
use Rattle.colours.specs.Packed.{in_process, coordinate_in}
use Rattle.colours.specs.Runs.{offset_at, sound_runs, Sound, Last, colors_from, check_call, color_call, colors_call}
use Rattle.colours.specs.Says.{colors_answer, WritesColors}
use Rattle.colours.specs.declared.ColorError.{ColorError}
use Rattle.colours.proofs.Roundtrip.{run_free}
use Rattle.colours.proofs.Listing.{sound_says, says_sound, last_found}
use Rattle.colours.proofs.Painting.{length_colors, colors_at}

-- The check passes a list that keeps the four rules; any other is refused with 23, whatever is asked of it.
module _ (kmers : ℕ) (runs : List ℕ) where
  pub sound_passes : Sound kmers runs → check_call kmers runs ≡ gives tt
  sound_passes s = rw (says_sound kmers runs s)

  pub passes_sound : check_call kmers runs ≡ gives tt → Sound kmers runs
  passes_sound h =
      ⊎_elim (sound_says kmers runs) (λ f. ungiven tt 23 [] (sym (rw f at h))) (true_or_false (sound_runs kmers runs))

  module _ (broken : Sound kmers runs → ⊥) where
    fails : sound_runs kmers runs ≡ false
    fails =
        ⊎_elim (λ t. absurd (broken (sound_says kmers runs t))) (λ f. f) (true_or_false (sound_runs kmers runs))

    pub broken_check : check_call kmers runs ≡ refuses 23 []
    broken_check = rw fails

    pub broken_color : (vertex : ℕ) → color_call kmers runs vertex ≡ refuses 23 []
    broken_color vertex = rw fails

    pub broken_colors : (slice : List ℕ)
        → colors_call kmers runs slice ≡ record { answer = refuses 23 []; slice = slice }
    broken_colors slice = rw fails

-- No two runs are the last one at or before a vertex.
pub last_one : {vertex : ℕ} {runs : List ℕ} {i j : ℕ} → Last vertex runs i → Last vertex runs j → i ≡ j
last_one {vertex} {runs} {i} {j} p q =
    ⊎_elim (λ l. absurd (omega (arith, q.reached, p.later j l q.within)))
    (λ l. ⊎_elim (λ m. absurd (omega (arith, p.reached, q.later i m p.within))) (λ m. omega arith) (lt_or_ge j i))
    (lt_or_ge i j)

module _ {kmers : ℕ} {runs : List ℕ} (s : Sound kmers runs) (vertex : ℕ) where
  -- One is.
  pub last_there : (i : ℕ) × Last vertex runs i
  last_there = go (length runs) (omega arith) (λ j h k. absurd (omega arith))
    where
      -- The runs from n on are behind the vertex.
      go : (n : ℕ) → n ≤ length runs → ((j : ℕ) → n ≤ j → j < length runs → vertex < offset_at runs j)
          → (i : ℕ) × Last vertex runs i
      go zero h later = absurd (omega (arith, s.first, later 0 (omega arith) s.some))
      go (suc n) h later =
          ⊎_elim
          (λ (l : vertex < offset_at runs n).
          go n (omega arith)
          (λ j k m.
          ⊎_elim (λ (q : n < j). later j q m) (λ (q : j ≤ n). let e : j ≡ n = omega arith in rw e l) (lt_or_ge n j)))
          (λ (l : offset_at runs n ≤ vertex). (n, record { within = omega arith; reached = l; later = later }))
          (lt_or_ge vertex (offset_at runs n))

  -- Its colour is answered, of a vertex of the label;
  pub color_is : vertex < kmers → (i : ℕ) → Last vertex runs i
      → color_call kmers runs vertex ≡ gives (coordinate_in (get_or runs i 0))
  color_is h i l =
      rw (says_sound kmers runs s, lt-ltb vertex kmers h) (ap gives (last_found vertex runs 0 i l))

  -- of another the refusal is 24.
  pub past_is : kmers ≤ vertex → color_call kmers runs vertex ≡ refuses 24 []
  past_is h = rw (says_sound kmers runs s, le-ltb vertex kmers h)

-- No colour that is answered is in process.
module _ (kmers : ℕ) (runs : List ℕ) (words : (i : ℕ) → i < length runs → get_or runs i 0 < 2 ^ 64) (vertex : ℕ) where
  pub color_free : {c : ℕ} → color_call kmers runs vertex ≡ gives c → in_process c ≡ false
  color_free {c} h = go (true_or_false (sound_runs kmers runs)) (lt_or_ge vertex kmers)
    where
      go : (sound_runs kmers runs ≡ true) ⊎ (sound_runs kmers runs ≡ false) → (vertex < kmers) ⊎ (kmers ≤ vertex)
          → in_process c ≡ false
      go (inr f) v =
          let broken : Sound kmers runs → ⊥ = λ s. false≢true (sym f ∙ says_sound kmers runs s) in
          ungiven c 23 [] (sym h ∙ broken_color kmers runs broken vertex)
      go (inl t) (inr l) = ungiven c 24 [] (sym h ∙ past_is (sound_says kmers runs t) vertex l)
      go (inl t) (inl l) =
          let s = sound_says kmers runs t in
          let f = last_there s vertex in
          let e : gives (coordinate_in (get_or runs f.0 0)) ≡ gives c = sym (color_is s vertex l f.0 f.1) ∙ h in
          let r = run_free (get_or runs f.0 0) (words f.0 f.1.within) in
          let q : coordinate_in (get_or runs f.0 0) ≡ c = cc in
          rw q at r

-- A call for all vertices that was not refused has written, for each, the colour that the call for one answers.
module _ (kmers : ℕ) (runs slice : List ℕ) where
  record Painted (m : ℕ) (f : Filled) : Type 0 where
    sound : sound_runs kmers runs ≡ true
    number : m ≡ kmers
    slice_after : f.slice ≡ over (colors_from runs 0 kmers) slice

  abbrev Good : ℕ → Filled → Type 0
  Good m f = gives m ≡ f.answer → Painted m f

  painted : (m : ℕ) → Good m (colors_call kmers runs slice)
  painted m =
      choose (Good m) (sound_runs kmers runs)
      (λ s. choose (Good m) (ltb (length slice) (length (colors_from runs 0 kmers)))
      (λ r h. ungiven m _ _ h)
      (λ r h. let e : m ≡ length (colors_from runs 0 kmers) = cc in
      record { sound = s; number = e ∙ length_colors runs 0 kmers; slice_after = refl }))
      (λ s h. ungiven m _ _ h)

  module _ {r : Result ℕ ColorError} {out : List ℕ} (w : WritesColors r out (colors_call kmers runs slice))
      {m : ℕ} (e : r ≡ Ok m) where
    whole : Painted m (colors_call kmers runs slice)
    whole = painted m (ap colors_answer (sym e) ∙ w.answer)

    pub written_sound : Sound kmers runs
    written_sound = sound_says kmers runs whole.sound

    pub written_number : m ≡ kmers
    written_number = whole.number

    pub written_each : (vertex : ℕ) → vertex < kmers → color_call kmers runs vertex ≡ gives (get_or out vertex 0)
    written_each vertex h =
        let all = colors_from runs 0 kmers in
        let n : vertex < length all = omega (arith, length_colors runs 0 kmers) in
        let cell : get_or out vertex 0 ≡ get_or all vertex 0 =
        ap (λ (l : List ℕ). get_or l vertex 0) (w.slice ∙ whole.slice_after)
        ∙ get_or-append all (drop (length all) slice) 0 vertex n in
        rw (whole.sound, lt-ltb vertex kmers h) (ap gives (sym (cell ∙ colors_at runs kmers vertex h)))
