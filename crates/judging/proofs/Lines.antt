-- The lines of a text from a place on, and the records that they make. Assumes nothing.
use Prim.Native.Nat.{ℕ, zero, suc, ◌+◌, ◌-◌, ◌≤◌, ◌<◌}
use mathlib.Core.Path.{◌≡◌, refl, sym, ap, ap₂, ◌∙◌, subst}
use mathlib.Core.Bool.{Bool, true, false, cond, ◌&&◌, ◌||◌}
use mathlib.Core.List.{List, [], ◌∷◌, ◌++◌}
use native.Mathlib.Omega.{arith}
use borrow.Author.Tests.{eqb-false, eq-eqb, ne_eqb}
use lib.Dec.{eqb, leb}
use lib.ListN.{length, get_or, drop, length-drop, take-append-drop}
use lib.Seq.{take-suc, drop-cons, get_or-drop, get_or-take, drop-drop, take_all, drop-length}
use mathlib.Core.Logic.{⊎_elim}
use Rattle.lemmas.proofs.Numbers.{lt_or_ge}
use Rattle.lemmas.proofs.Tests.{choose, never, or_first, or_second}
use Rattle.std.specs.List.{list_all}
use Rattle.dna.specs.Text.{bytes, among, part}
use Rattle.rules.specs.Listing.{Listing, holds, no_list, Lists, Label, put, lines_of, is_plain, and_then, ended}
use Rattle.rules.specs.Listing.{labels_among, listing}
use Rattle.rules.specs.Listing.Lists.{none, one}
use Rattle.rules.proofs.Listing.{lines_line, plain_line}
use Rattle.judging.specs.Places.{LineEnds, is_held, Recorded, Spans}

among_snoc : (b : ℕ) (s : List ℕ) (x : ℕ) → among b (s ++ (x ∷ [])) ≡ (among b s || eqb b x)
unfolding among
among_snoc b [] x = or_none (eqb b x)
  where
    or_none : (t : Bool) → (t || false) ≡ t
    or_none true = refl
    or_none false = refl
among_snoc b (y ∷ s) x = ap (λ (t : Bool). eqb b y || t) (among_snoc b s x) ∙ flat (eqb b y) (among b s) (eqb b x)
  where
    flat : (p q r : Bool) → (p || (q || r)) ≡ ((p || q) || r)
    flat true q r = refl
    flat false q r = refl

-- ---- a line

pub line_start : (text : List ℕ) (at : ℕ) → among 10 (part text at (at - at)) ≡ false
unfolding among
line_start text at = let e : at - at ≡ 0 = omega arith in rw e

pub line_more : (text : List ℕ) (at i : ℕ) → at ≤ i → i < length text → among 10 (part text at (i - at)) ≡ false
    → (get_or text i 0 ≡ 10 → ⊥)
    → among 10 (part text at (i + 1 - at)) ≡ false
line_more text at i h l q n =
    let e : i + 1 - at ≡ suc (i - at) = omega arith in
    let m : at + (i - at) ≡ i = omega arith in
    let d : i - at < length (drop at text) = omega (arith, length-drop at text) in
    let g : get_or (drop at text) (i - at) 0 ≡ get_or text i 0 =
    get_or-drop at text (i - at) 0 ∙ ap (λ (k : ℕ). get_or text k 0) m in
    let t : eqb 10 (get_or text i 0) ≡ false = ne_eqb 10 (get_or text i 0) (λ z. n (sym z)) in
    rw (e, take-suc (drop at text) (i - at) 0 d, g, among_snoc 10 (part text at (i - at)) (get_or text i 0), q, t)

-- What stands from a place on: the line, and behind its newline the rest.
pub line_cut : (text : List ℕ) (at r : ℕ) → LineEnds text at r → r < length text → drop at text
    ≡ part text at (r - at) ++ (10 ∷ drop (suc r) text)
line_cut text at r g h =
    let m : at + (r - at) ≡ r = omega (arith, g.behind) in
    sym (take-append-drop (r - at) (drop at text))
    ∙ ap (λ (t : List ℕ). part text at (r - at) ++ t)
    (drop-drop (r - at) at text ∙ ap (λ (k : ℕ). drop k text) m ∙ drop-cons text r 0 h
    ∙ ap (λ (b : ℕ). b ∷ drop (suc r) text) (g.stop h))

pub line_whole : (text : List ℕ) (at r : ℕ) → LineEnds text at r → length text ≤ r
    → drop at text ≡ part text at (r - at)
line_whole text at r g h = sym (take_all (r - at) (drop at text) (omega (arith, length-drop at text)))

lines_cut : (text : List ℕ) (at r : ℕ) → LineEnds text at r → r < length text → lines_of (drop at text)
    ≡ part text at (r - at) ∷ lines_of (drop (suc r) text)
lines_cut text at r g h = ap lines_of (line_cut text at r g h)
    ∙ lines_line (part text at (r - at)) (drop (suc r) text) g.line

-- A text without a newline is one line.
lines_none : (s : List ℕ) → among 10 s ≡ false → lines_of s ≡ s ∷ []
unfolding lines_of among put
lines_none [] h = refl
lines_none (b ∷ s) h =
    let e : eqb b 10 ≡ false = ne_eqb b 10 (λ q. eqb-false 10 b (or_first (eqb 10 b) (among 10 s) h) (sym q)) in
    rw (e, lines_none s (or_second (eqb 10 b) (among 10 s) h))

-- ---- whether a text holds a list

-- A line begins as the text does at its place.
begins : (text : List ℕ) (at r : ℕ) → LineEnds text at r → r < length text → eqb (get_or (part text at (r - at)) 0 0) 62
    ≡ eqb (get_or text at 0) 62
begins text at r g h = go (r - at) refl
  where
    go : (m : ℕ) → r - at ≡ m → eqb (get_or (part text at m) 0 0) 62 ≡ eqb (get_or text at 0) 62
    go zero e =
        let q : at ≡ r = omega (arith, g.behind) in
        let z : get_or text at 0 ≡ 10 = ap (λ (k : ℕ). get_or text k 0) q ∙ g.stop h in
        ne_eqb 0 62 (λ f. omega arith) ∙ sym (ne_eqb (get_or text at 0) 62 (λ f. omega arith))
    go (suc m) e =
        let q : at + 0 ≡ at = omega arith in
        ap (λ (b : ℕ). eqb b 62)
        (get_or-take (suc m) (drop at text) 0 0 (omega arith) ∙ get_or-drop at text 0 0
        ∙ ap (λ (k : ℕ). get_or text k 0) q)

module _ (K : ℕ) (text : List ℕ) where
  held_then : (l : List ℕ) (r : Listing) → is_held (and_then l r) ≡ is_held r
  held_then l (holds ls) = refl
  held_then l no_list = refl

  pub held_end : (at : ℕ) → length text ≤ at → at ≤ length text → is_held (listing K (drop at text)) ≡ true
  unfolding lines_of labels_among
  held_end at h l =
      let e : at ≡ length text = omega arith in
      ap (λ (t : List ℕ). is_held (listing K t)) (ap (λ (k : ℕ). drop k text) e ∙ drop-length text)

  -- The first line has no newline.
  pub held_no_line : (at r : ℕ) → at < length text → LineEnds text at r → r ≡ length text
      → is_held (listing K (drop at text)) ≡ false
  unfolding labels_among
  held_no_line at r l g e =
      let w = line_whole text at r g (omega arith) in
      let d = drop-cons text at 0 l in
      ap (λ (ls : List (List ℕ)). is_held (labels_among K ls)) (lines_none (drop at text) (ap (among 10) w ∙ g.line))
      ∙ ap (λ (t : List ℕ). is_held (ended t)) d

  module _ (at r : ℕ) (g : LineEnds text at r) (h : r < length text) (e : ℕ) (k : LineEnds text (r + 1) e) where
    abbrev label : List ℕ
    label = part text (r + 1) (e - (r + 1))

    lines_first : lines_of (drop at text) ≡ part text at (r - at) ∷ lines_of (drop (r + 1) text)
    lines_first = let n : suc r ≡ r + 1 = omega arith in lines_cut text at r g h
        ∙ ap (λ (m : ℕ). part text at (r - at) ∷ lines_of (drop m text)) n

    -- Nor has the second.
    pub held_no_second : e ≡ length text → is_held (listing K (drop at text)) ≡ false
    unfolding labels_among
    held_no_second q =
        let w = line_whole text (r + 1) e k (omega arith) in
        ap (λ (ls : List (List ℕ)). is_held (labels_among K ls))
        (lines_first ∙ ap (λ (ls : List (List ℕ)). part text at (r - at) ∷ ls)
        (lines_none (drop (r + 1) text) (ap (among 10) w ∙ k.line)))
        ∙ choose (λ (z : Listing). is_held z ≡ false)
        (eqb (get_or (part text at (r - at)) 0 0) 62 && leb K (length (drop (r + 1) text)) && is_plain
        (drop (r + 1) text))
        (λ _. refl) (λ _. refl)

    module _ (f : e < length text) where
      two_lines : lines_of (drop at text) ≡ part text at (r - at) ∷ label ∷ lines_of (drop (e + 1) text)
      two_lines =
          let n : suc e ≡ e + 1 = omega arith in
          lines_first ∙ ap (λ (ls : List (List ℕ)). part text at (r - at) ∷ ls)
          (lines_cut text (r + 1) e k f ∙ ap (λ (m : ℕ). label ∷ lines_of (drop m text)) n)

      abbrev test : Bool
      test = eqb (get_or (part text at (r - at)) 0 0) 62 && leb K (length label) && is_plain label

      held_two : is_held (listing K (drop at text))
          ≡ is_held (cond test (and_then label (listing K (drop (e + 1) text))) no_list)
      unfolding labels_among
      held_two = ap (λ (ls : List (List ℕ)). is_held (labels_among K ls)) two_lines

      pub held_no_header : (get_or text at 0 ≡ 62 → ⊥) → is_held (listing K (drop at text)) ≡ false
      held_no_header n =
          let q : eqb (get_or (part text at (r - at)) 0 0) 62 ≡ false =
          begins text at r g h ∙ ne_eqb (get_or text at 0) 62 n in
          held_two ∙ rw q

      module _ (y : get_or text at 0 ≡ 62) {t : Bool} (c : t ≡ (leb K (length label) && is_plain label)) where
        test_is : test ≡ t
        test_is =
            let q : eqb (get_or (part text at (r - at)) 0 0) 62 ≡ true =
            begins text at r g h ∙ eq-eqb (get_or text at 0) 62 y in
            rw q (sym c)

        pub held_no_label : t ≡ false → is_held (listing K (drop at text)) ≡ false
        held_no_label n = held_two
            ∙ ap (λ (b : Bool). is_held (cond b (and_then label (listing K (drop (e + 1) text))) no_list)) (test_is ∙ n)

        pub held_on : t ≡ true → is_held (listing K (drop at text)) ≡ is_held (listing K (drop (e + 1) text))
        held_on n =
            held_two ∙ ap (λ (b : Bool). is_held (cond b (and_then label (listing K (drop (e + 1) text))) no_list))
            (test_is ∙ n)
            ∙ held_then label (listing K (drop (e + 1) text))

-- ---- letters

pub plain_all : (s : List ℕ) → is_plain s ≡ list_all (λ b. among b (bytes "ACGT")) s
unfolding is_plain
plain_all [] = refl
plain_all (b ∷ s) = ap (λ (t : Bool). among b (bytes "ACGT") && t) (plain_all s)

-- ---- the record at a place

-- Texts whose first lines are known are known line by line.
same_cut : (s t p q : List ℕ) → among 10 s ≡ false → among 10 p ≡ false → s ++ (10 ∷ t) ≡ p ++ (10 ∷ q) → (s ≡ p)
    × (t ≡ q)
unfolding among
same_cut [] t [] q h k e = (refl, ap (drop 1) e)
same_cut [] t (b ∷ p) q h k e =
    let z : 10 ≡ b = ap (λ (l : List ℕ). get_or l 0 0) e in
    never (eqb 10 b) (eq-eqb 10 b z) (or_first (eqb 10 b) (among 10 p) k)
same_cut (a ∷ s) t [] q h k e =
    let z : a ≡ 10 = ap (λ (l : List ℕ). get_or l 0 0) e in
    never (eqb 10 a) (eq-eqb 10 a (sym z)) (or_first (eqb 10 a) (among 10 s) h)
same_cut (a ∷ s) t (b ∷ p) q h k e =
    let z : a ≡ b = ap (λ (l : List ℕ). get_or l 0 0) e in
    let r = same_cut s t p q (or_second (eqb 10 a) (among 10 s) h) (or_second (eqb 10 b) (among 10 p) k)
    (ap (drop 1) e) in
    (ap₂ (λ (x : ℕ) (l : List ℕ). x ∷ l) z r.0, r.1)

-- A list of at least one label, taken apart.
record Opened (K : ℕ) (text : List ℕ) (l : List ℕ) (ls : List (List ℕ)) : Type 0 where
  header : List ℕ
  rest : List ℕ
  is : text ≡ (62 ∷ header) ++ (10 ∷ (l ++ (10 ∷ rest)))
  headed : among 10 (62 ∷ header) ≡ false
  labelled : Label K l
  others : Lists K rest ls

opened : {K : ℕ} {text : List ℕ} {ms : List (List ℕ)} → Lists K text ms → (l : List ℕ) (ls : List (List ℕ))
    → ms ≡ l ∷ ls
    → Opened K text l ls
unfolding among
opened none l ls e = absurd (let n = ap length e in omega arith)
opened {K} (one header label {text} n p r) l ls e =
    let a : label ≡ l = ap (λ (x : List (List ℕ)). get_or x 0 []) e in
    let b = ap (drop 1) e in
    record {
      header = header;
      rest = text;
      is = ap (λ (x : List ℕ). (62 ∷ header) ++ (10 ∷ (x ++ (10 ∷ text)))) a;
      headed = n;
      labelled = subst (Label K) a p;
      others = subst (Lists K text) b r;
    }

-- A newline stands in a text that has one.
has_newline : (s t : List ℕ) → among 10 (s ++ (10 ∷ t)) ≡ true
unfolding among
has_newline [] t = refl
has_newline (b ∷ s) t = rw (has_newline s t) (or_true (eqb 10 b))
  where
    or_true : (x : Bool) → (x || true) ≡ true
    or_true true = refl
    or_true false = refl

line_found : (text : List ℕ) (at r : ℕ) → LineEnds text at r → (s t : List ℕ) → drop at text ≡ s ++ (10 ∷ t)
    → r < length text
line_found text at r g s t e = ⊎_elim (λ l. l)
    (λ l. never (among 10 (s ++ (10 ∷ t))) (has_newline s t)
    (ap (among 10) (sym e ∙ line_whole text at r g l) ∙ g.line))
    (lt_or_ge r (length text))

line_rest : (text : List ℕ) (at r : ℕ) (g : LineEnds text at r) (s t : List ℕ) → among 10 s ≡ false
    → drop at text ≡ s ++ (10 ∷ t)
    → (part text at (r - at) ≡ s) × (drop (r + 1) text ≡ t)
line_rest text at r g s t h e =
    let l = line_found text at r g s t e in
    let n : suc r ≡ r + 1 = omega arith in
    let c = same_cut (part text at (r - at)) (drop (suc r) text) s t g.line h (sym (line_cut text at r g l) ∙ e) in
    (c.0, ap (λ (m : ℕ). drop m text) (sym n) ∙ c.1)

pub record_inside : (text : List ℕ) (at : ℕ) → Recorded text at → at < length text
record_inside text at a =
    let o = opened a.lists a.label a.labels refl in
    omega (arith, length-drop at text, ap length o.is)

pub head_inside : (text : List ℕ) (at r : ℕ) → Recorded text at → LineEnds text at r → r + 1 ≤ length text
head_inside text at r a g =
    let o = opened a.lists a.label a.labels refl in
    omega (arith, line_found text at r g (62 ∷ o.header) (a.label ++ (10 ∷ o.rest)) o.is)

pub spans : (text : List ℕ) (at r e : ℕ) → Recorded text at → LineEnds text at r → LineEnds text (r + 1) e
    → Spans text at (r + 1) e
spans text at r e a g k =
    let o = opened a.lists a.label a.labels refl in
    let c = line_rest text at r g (62 ∷ o.header) (a.label ++ (10 ∷ o.rest)) o.headed o.is in
    record {
      ordered = k.behind;
      within = line_found text (r + 1) e k a.label o.rest c.1;
      on = omega (arith, g.behind, k.behind);
      first = λ K l ls q.
          let p = opened q l ls refl in
          let d = line_rest text at r g (62 ∷ p.header) (l ++ (10 ∷ p.rest)) p.headed p.is in
          let f = line_rest text (r + 1) e k l p.rest (plain_line l p.labelled.0) d.1 in
          let n : e + 1 ≡ suc e = omega arith in
          (sym f.0, subst (λ (t : List ℕ). Lists K t ls) (sym (ap (λ (m : ℕ). drop m text) (sym n) ∙ f.1)) p.others);
    }
