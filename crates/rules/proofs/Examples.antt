-- Lists over P1's table and three others, at K = 3 and cutoff 1, judged by computing; and the refusals in their order. Assumes nothing.
use Prim.Native.Nat.{ℕ}
use Prim.Native.String.{String}
use mathlib.Core.Path.{◌≡◌, refl}
use mathlib.Core.List.{List, [], ◌∷◌, map}
use lib.ListN.{length}
use Rattle.dna.specs.Text.{bytes, open_text}
use Rattle.dna.specs.Letters.{open_letters}
use Rattle.dna.specs.Order.{open_order}
use Rattle.dna.specs.Answer.{Answer, gives, refuses}
use Rattle.kmer.specs.Kmer.{open_kmer}
use Rattle.state.specs.Counted.{four_bits, presence, open_counted}
use Rattle.graph.specs.Table.{words_of, open_table}
use Rattle.graph.specs.Walks.{open_walks}
use Rattle.graph.specs.Contraction.{open_contraction}
use Rattle.laws.specs.Windows.{open_windows}
use Rattle.laws.specs.Demand.{open_demand}
use Rattle.rules.specs.Listing.{open_listing}
use Rattle.rules.specs.Verdict.{Verdict, yes, no, open_verdict}
use Rattle.rules.specs.Judging.{Judgement, judge, open_judging}

-- A table's keys and counts, a text, and what is answered.
pub record Case : Type 0 where
  pub keys : List ℕ
  pub counts : List ℕ
  pub text : String
  pub says : Answer Verdict

-- ACC and CCC as ACCCC gives them; ATC, ATG and TCA as ATCATC gives them, a cycle; ACG and CCG of ACGG; ACG, CCG, GCC and GGA of ACGGA and
-- ACGGC.
abbrev pub p1 : String → Answer Verdict → Case
p1 text says = record { keys = 5 ∷ 21 ∷ []; counts = 0x00100000 ∷ 0x00100001 ∷ []; text = text; says = says }

abbrev pub p7 : String → Answer Verdict → Case
p7 text says = record { keys = 13 ∷ 14 ∷ 52 ∷ []; counts = 0x00010010 ∷ 0x00010100 ∷ 0x10000001 ∷ []; text = text; says = says }

abbrev pub p6 : String → Answer Verdict → Case
p6 text says = record { keys = 6 ∷ 22 ∷ []; counts = 0x01000000 ∷ 0x10000000 ∷ []; text = text; says = says }

abbrev pub fork : String → Answer Verdict → Case
fork text says =
    record { keys = 6 ∷ 22 ∷ 37 ∷ 40 ∷ []; counts = 0x02000000 ∷ 0x20001100 ∷ 0x01000000 ∷ 0x00000010 ∷ []; text = text; says = says }

abbrev pub cases : List Case
cases =
    p1 ">0\nACCC\n" (gives yes)
    ∷ p1 ">\nACC\n>any text\r\nCCC\n" (gives yes)
    ∷ p1 "" (gives (no 2 0))
    ∷ p1 ">0\nCCC\n>0\nACC\n" (gives (no 1 1))
    ∷ p1 ">0\nACC\n" (gives (no 2 1))
    ∷ p1 ">0\nACC\n>0\nACCC\n" (gives (no 2 1))
    ∷ p1 ">0\nACC\n>0\nACG\n" (gives (no 2 1))
    ∷ p1 ">0\nACCCC\n" (gives (no 2 0))
    ∷ p1 ">0\nACCC" (refuses 17 [])
    ∷ p1 ">0\nAC\n" (refuses 17 [])
    ∷ p1 ">0\nACCC\n\n" (refuses 17 [])
    ∷ p1 "ACCC\n" (refuses 17 [])
    ∷ p1 ">0\nacc\n" (refuses 17 [])
    ∷ p7 ">0\nATCAT\n" (gives yes)
    ∷ p7 ">0\nCATCA\n" (gives yes)
    ∷ p7 ">0\nGATGA\n" (gives yes)
    ∷ p7 ">0\nTCATC\n" (gives (no 1 0))
    ∷ p6 ">0\nACGG\n" (gives yes)
    ∷ p6 ">0\nACG\n>0\nCCG\n" (gives (no 4 0))
    ∷ fork ">0\nACGG\n>0\nGCC\n>0\nGGA\n" (gives yes)
    ∷ fork ">0\nACGGA\n>0\nGCC\n" (gives (no 3 0))
    ∷ fork ">0\nACG\n>0\nCCG\n>0\nGCC\n>0\nGGA\n" (gives (no 4 0))
    ∷ []

abbrev pub answer_to : Case → Answer Verdict
answer_to c = (judge four_bits 3 1 (length c.keys) (words_of c.keys) c.counts (bytes c.text) (7 ∷ 7 ∷ 7 ∷ 7 ∷ [])).answer

pub computed : map answer_to cases ≡ map (λ (c : Case). c.says) cases
unfolding open_text open_letters open_order open_kmer open_counted open_table open_walks open_contraction open_windows open_demand open_listing open_verdict open_judging
computed = refl

-- P1's table asked at K of 64; with its keys exchanged; with a bit that is no presence bit; as presence bits at cutoff 2; with one mark; as a
-- table of K = 4; and with a text that holds no list. In each case those behind it in the order would apply too, and nothing is changed.
abbrev refusals : List Judgement
refusals =
    let keys = words_of (5 ∷ 21 ∷ []) in
    let counts : List ℕ = 0x00100000 ∷ 0x00100001 ∷ [] in
    let bits : List ℕ = 0x100 ∷ 0x108 ∷ [] in
    let text = bytes "ACCC" in
    judge presence 64 2 2 (words_of (21 ∷ 5 ∷ [])) bits text (7 ∷ [])
    ∷ judge presence 4 2 2 (words_of (21 ∷ 5 ∷ [])) bits text (7 ∷ [])
    ∷ judge presence 4 2 2 keys (0x100 ∷ 0x908 ∷ []) text (7 ∷ [])
    ∷ judge presence 4 2 2 keys bits text (7 ∷ [])
    ∷ judge four_bits 4 1 2 keys counts text (7 ∷ [])
    ∷ judge four_bits 4 1 2 keys counts text (7 ∷ 7 ∷ [])
    ∷ judge four_bits 3 1 2 keys counts text (7 ∷ 7 ∷ [])
    ∷ []

abbrev refused_with : ℕ → List ℕ → List ℕ → Judgement
refused_with r beside marks = record { answer = refuses r beside; marks = marks }

pub in_order_lem : refusals
    ≡ refused_with 1 (64 ∷ []) (7 ∷ []) ∷ refused_with 5 [] (7 ∷ []) ∷ refused_with 5 [] (7 ∷ []) ∷ refused_with 15 [] (7 ∷ [])
    ∷ refused_with 7 [] (7 ∷ []) ∷ refused_with 16 [] (7 ∷ 7 ∷ []) ∷ refused_with 17 [] (7 ∷ 7 ∷ []) ∷ []
unfolding open_text open_letters open_order open_kmer open_counted open_table open_walks open_contraction open_windows open_demand open_listing open_verdict open_judging
in_order_lem = refl

-- After a verdict the first n marks are 0, and those behind them as they were.
pub marks_cleared : judge four_bits 3 1 2 (words_of (5 ∷ 21 ∷ [])) (0x00100000 ∷ 0x00100001 ∷ []) (bytes ">0\nACCC\n") (7 ∷ 7 ∷ 7 ∷ [])
    ≡ record { answer = gives yes; marks = 0 ∷ 0 ∷ 7 ∷ [] }
unfolding open_text open_letters open_order open_kmer open_counted open_table open_walks open_contraction open_windows open_demand open_listing open_verdict open_judging
marks_cleared = refl

-- Of presence bits the verdict is that of counts.
pub presence_judged : (judge presence 3 1 2 (words_of (5 ∷ 21 ∷ [])) (0x100 ∷ 0x108 ∷ []) (bytes ">0\nACC\n>0\nCCC\n") (7 ∷ 7 ∷ [])).answer ≡ gives yes
unfolding open_text open_letters open_order open_kmer open_counted open_table open_walks open_contraction open_windows open_demand open_listing open_verdict open_judging
presence_judged = refl
