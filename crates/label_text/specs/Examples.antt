-- The labels of some texts, and a label file, computed. Assumes nothing.
use Prim.Native.String.{String}
use Rattle.std.specs.Prelude.{◌≡◌, refl, true, false, List, [], ◌∷◌, map}
use Rattle.dna.specs.Text.{bytes}
use Rattle.label_text.specs.Lines.{is_mixed, labels_in, open_lines}
use Rattle.label_text.specs.Packing.{packed, open_packing}

-- FASTA, its second record with carriage returns; a record without a sequence, and no last newline; a plain text with
-- an empty line; an empty text.
abbrev examples : List (String × List String)
examples =
    (">one\nACC\nGT\n>two\r\nTT\r\nACGT\r\n", "ACCGT" ∷ "TTACGT" ∷ [])
    ∷ (">one\n>two\nAC", "AC" ∷ [])
    ∷ ("ACC\n\nGT\n", "ACC" ∷ "GT" ∷ [])
    ∷ ("", [])
    ∷ []

pub sample : map (λ (e : String × List String). labels_in (bytes e.0)) examples
    ≡ map (λ (e : String × List String). map bytes e.1) examples
unfolding open_lines
sample = refl

-- An empty line or a comment in front of FASTA; FASTA, and labels.
pub mixed : map (λ (s : String). is_mixed (bytes s)) ("\n>one\nACC\n" ∷ "; by hand\n>one\nACC\n" ∷ ">one\nACC\n" ∷ "ACC\nGT\n" ∷ [])
    ≡ true ∷ true ∷ false ∷ false ∷ []
unfolding open_lines
mixed = refl

-- Document 01's sample of the program's input.
pub sample_file : packed 3 1 (bytes "ACCCC" ∷ [])
    ≡ 0x4B ∷ 0x43 ∷ 0x03 ∷ 0x01 ∷ 0 ∷ 0 ∷ 0 ∷ 0x4C ∷ 0x42 ∷ 0x05 ∷ 0 ∷ 0x41 ∷ 0x43 ∷ 0x43 ∷ 0x43 ∷ 0x43 ∷ []
unfolding open_packing
sample_file = refl
