-- The key of a single pair: its end is unique, a derived key is found, and no key is before the end of an entry.
use Rattle.std.proofs.Common.{◌≡◌, ℕ, ℤ, ◌≤◌, true, false, List, [], ap, ◌∙◌, subst, arith}
use Rattle.yf_chars.specs.declared.context.Ctx.{Ctx}
use Rattle.yf_chars.specs.Text.{code}
use Rattle.yf_chars.specs.Class.{is_white, is_ns_char, is_nb_char, is_printable, is_between, is_break_char}
use Rattle.yf_chars.specs.Chain.{Many}
use Rattle.yf_chars.specs.Chain.Chain.{done}
use Rattle.yf_chars.proofs.ChainLemmas.{many_unique}
use Rattle.yf_comments.specs.Comment.{CommentValue}
use Rattle.yf_comments.proofs.RowLemmas.{separate_whites}
use Rattle.yf_plain.proofs.PlainLemmas.{ns_not_white}
use Rattle.yf_grammar.specs.Productions.Grammar.{MaySeparate, MaySeparateInLine, characters_between, KEY_LIMIT}
use Rattle.yf_grammar.specs.Productions.Grammar.MaySeparateInLine.{unseparated_in_line, separated_in_line}
use Rattle.yf_grammar.specs.FlowReader.Parser.{ParsedNode, ColonAt, OnOneLine, PairKey}
use Rattle.yf_grammar.proofs.Ends.BlankRuns.{is_blank, ns_not_blank, Blanks, blanks_unique, blanks_of_whites, Front, all_blank, hash_at}
use Rattle.yf_grammar.proofs.FlowReader.PlainEnds.{may_front, hash_not_blank}
use Rattle.yf_grammar.proofs.FlowReader.PropertiesEnds.{stop_ns}
use Rattle.yf_grammar.proofs.FlowReader.FlowStarts.{is_end}
use Rattle.yf_grammar.proofs.FlowReader.NodeExact.{end_no_colon, end_stop}

colon_ns : (c : ℕ) → c ≡ 58 → is_ns_char c ≡ true
unfolding is_ns_char is_nb_char is_printable is_between is_break_char is_white
colon_ns c e = ap is_ns_char e

module _ {t : List ℕ} {c : Ctx} where
  key_white : {i k : ℕ} {f : ParsedNode} → PairKey t c i f k → is_white (code t k) ≡ false
  key_white {k = k} p = ns_not_white (code t k) (colon_ns (code t k) p.colon.colon)

  -- a key has one end
  pub key_unique : {i k m : ℕ} {f : ParsedNode} → PairKey t c i f k → PairKey t c i f m → m ≡ k
  key_unique p q = (many_unique t is_white q.run (key_white q) p.run (key_white p)).0

  -- no key is before the end of an entry
  pub no_key_before_end : {n : ℤ} {i j k l : ℕ} {cs : List CommentValue} {f : ParsedNode} → MaySeparate t n c j l cs → is_end (code t l) ≡ true → f.end ≡ j
      → PairKey t c i f k → ⊥
  no_key_before_end {n} {i} {j} {k} {l} m e q p = go (may_front m) where
    to : Blanks t j k
    to = subst (λ w. Blanks t w k) q (blanks_of_whites p.run)

    there : is_blank (code t k) ≡ false
    there = ns_not_blank (code t k) (colon_ns (code t k) p.colon.colon)

    go : Front t j l → ⊥
    go (all_blank b) =
        let same = blanks_unique b (ns_not_blank (code t l) (stop_ns (code t l) (end_stop (code t l) e))) to there in
        end_no_colon (code t l) e (ap (code t) same ∙ p.colon.colon)
    go (hash_at h b d s) =
        let same = blanks_unique b (hash_not_blank (code t h) d) to there in
        let z : code t h ≡ 58 = ap (code t) same ∙ p.colon.colon in
        absurd (omega arith)

pub line_run : {t : List ℕ} {i j : ℕ} → MaySeparateInLine t i j → (w : List ℕ) × Many t is_white i j w
line_run unseparated_in_line = ([], done)
line_run (separated_in_line s) = separate_whites s

-- a derived key is one for the reader
pub make_key : {t : List ℕ} {c : Ctx} {k : ℕ} (i : ℕ) (f : ParsedNode) → MaySeparateInLine t f.end k → OnOneLine t i k → characters_between t i k ≤ KEY_LIMIT → ColonAt t f.json c k
    → PairKey t c i f k
make_key i f s l m q = let w = line_run s in record { whites = w.0; run = w.1; line = l; short = m; colon = q }
