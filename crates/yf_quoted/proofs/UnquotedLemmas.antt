-- Characters that represent themselves in single quotes.
use Rattle.std.proofs.Common.{◌≡◌, ◌≢◌, ℕ, ◌+◌, ◌<◌, true, List, [], ◌∷◌, sym, ap, ◌∙◌, subst, arith, get_or, length}
use Rattle.std.proofs.lemmas.Bool.Decides.{nat_tests}
use Rattle.std.specs.Str.{IsUtf8}
use Rattle.yf_chars.specs.Class.{is_nb_json, is_between}
use Rattle.yf_chars.specs.Text.{code, CharAt}
use Rattle.yf_chars.proofs.TextLemmas.{reads_ascii}
use Rattle.yf_lines.specs.Basic.{Clear}
use Rattle.yf_lines.proofs.ClearLemmas.{not_forbidden}
use Rattle.yf_quoted.specs.Ordinary.{is_unquoted, CharOfItself}
use Rattle.yf_quoted.specs.Quoted.{SingleChar}
use Rattle.yf_quoted.proofs.SingleReadLemmas.{own_char}

unquoted_below : (c : ℕ) → is_unquoted c ≡ true → c < 128
unfolding is_unquoted is_between
unquoted_below c e = grind (arith, nat_tests)

unquoted_json : (c : ℕ) → is_unquoted c ≡ true → is_nb_json c ≡ true
unfolding is_unquoted is_between is_nb_json
unquoted_json c e = grind (arith, nat_tests)

unquoted_no_quote : (c : ℕ) → is_unquoted c ≡ true → c ≢ 39
unfolding is_unquoted is_between
unquoted_no_quote c e q = grind (arith, nat_tests)

unquoted_no_dash : (c : ℕ) → is_unquoted c ≡ true → c ≢ 45
unfolding is_unquoted is_between
unquoted_no_dash c e q = grind (arith, nat_tests)

unquoted_no_dot : (c : ℕ) → is_unquoted c ≡ true → c ≢ 46
unfolding is_unquoted is_between
unquoted_no_dot c e q = grind (arith, nat_tests)

-- bytes of such characters
pub unquoted_at : (t : List ℕ) (i : ℕ) → IsUtf8 t → i < length t → is_unquoted (get_or t i 0) ≡ true → CharOfItself t i (i + 1)
unquoted_at t i u l e =
    let r = reads_ascii t i u l (unquoted_below (get_or t i 0) e) in
    let c = code t i in
    let o : is_unquoted c ≡ true = ap is_unquoted r.char ∙ e in
    record {
      json = unquoted_json c o;
      no_quote = unquoted_no_quote c o;
      reads = subst (λ c. CharAt t i c (i + 1)) (sym r.char) r;
      allowed = not_forbidden t i (unquoted_no_dash c o) (unquoted_no_dot c o);
    }

pub unquoted_char : {t : List ℕ} {i j : ℕ} → IsUtf8 t → CharOfItself t i j → SingleChar t i j (code t i ∷ []) × Clear t i j
unquoted_char u o = own_char u o.reads o.json o.no_quote o.allowed
