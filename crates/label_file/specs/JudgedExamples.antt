-- Lists judged by document 01's sample of a label file, and by some that are refused, computed. Assumes nothing.
use Rattle.std.specs.Prelude.{ℕ, ◌≡◌, refl, List, [], ◌∷◌, ◌++◌, map}
use Prim.Native.String.{String}
use Rattle.dna.specs.Text.{bytes, open_text}
use Rattle.dna.specs.Letters.{open_letters}
use Rattle.dna.specs.Order.{open_order}
use Rattle.kmer.specs.Kmer.{open_kmer}
use Rattle.state.specs.Counted.{open_counted}
use Rattle.graph.specs.Table.{open_table}
use Rattle.graph.specs.Sightings.{open_sightings}
use Rattle.graph.specs.Adding.{open_adding}
use Rattle.graph.specs.Several.{open_several}
use Rattle.graph.specs.Walks.{open_walks}
use Rattle.graph.specs.Contraction.{open_contraction}
use Rattle.laws.specs.Windows.{open_windows}
use Rattle.laws.specs.Demand.{open_demand}
use Rattle.rules.specs.Listing.{open_listing}
use Rattle.rules.specs.Verdict.{open_verdict}
use Rattle.rules.specs.Judging.{open_judging}
use Rattle.label_file.specs.LabelFile.{open_label_file}
use Rattle.label_file.specs.Output.{open_output}
use Rattle.label_file.specs.Judged.{judged, open_judged}
use Rattle.label_file.specs.Examples.{kc, lb}

-- A label file, a list, and the line that is printed.
abbrev Example : Type 0
Example = List ℕ × String × String

abbrev examples : List Example
examples =
    (kc 3 1 ++ lb "ACCCC", ">0\nACCC\n", "yes\n")
    ∷ (kc 3 1 ++ lb "ACCCC", ">0\nACC\n>0\nCCC\n", "yes\n")
    ∷ (kc 3 1 ++ lb "ACCCC", "", "no 2 0\n")
    ∷ (kc 3 1 ++ lb "ACCCC", ">0\nCCC\n>0\nACC\n", "no 1 1\n")
    ∷ (kc 3 1 ++ lb "ACGGA" ++ lb "ACGGC", ">0\nACGGA\n>0\nGCC\n", "no 3 0\n")
    ∷ (kc 3 1 ++ lb "ACGGA" ++ lb "ACGGC", ">0\nACG\n>0\nCCG\n>0\nGCC\n>0\nGGA\n", "no 4 0\n")
    ∷ (kc 3 1, "", "yes\n")
    ∷ (kc 3 1 ++ lb "ACCCC", ">0\naccc\n", "R 17 2\n")
    ∷ (kc 4 1 ++ lb "ACCCC", ">0\naccc\n", "R 16 0\n")
    ∷ (kc 3 1 ++ lb "AC" ++ lb "ACCN", "", "R 3 2\n")
    ∷ (kc 3 1 ++ lb "NCCCC", "", "R 3 1\n")
    ∷ (kc 0 1 ++ lb "ACCCC", "", "R 1 0\n")
    ∷ ([], "", "R 13 0\n")
    ∷ []

pub told : map (λ (e : Example). judged e.0 (bytes e.1)) examples ≡ map (λ (e : Example). bytes e.2) examples
unfolding open_text open_letters open_order open_kmer open_counted open_table open_sightings open_adding open_several open_walks open_contraction open_windows open_demand open_listing open_verdict open_judging open_label_file open_output open_judged
told = refl
