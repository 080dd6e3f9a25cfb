-- An entry is written as its tokens.
use Rattle.std.proofs.Common.{◌≡◌, ℕ, List, ◌∷◌, [], ◌++◌, codes, decimal, subst, ap, ◌∙◌}
use Rattle.json.specs.Token.{Token}
use Rattle.json.specs.Json.{string}
use Rattle.json.specs.Print.{print}
use Rattle.json.specs.Tree.{json_tokens}
use Rattle.json.specs.Written.{Written}
use Rattle.yf_report.specs.Members.{Adds, member_tokens}
use Rattle.yf_report.proofs.JsonLemmas.{adds_more}
use Rattle.yf_baseline.specs.Baselines.{entry_json, entry_line}
use Rattle.yf_baseline.specs.declared.entry.Entry.{Entry}

-- the parts of the object of an entry, one after another
pub entry_written : (e : Entry) {a b c d f g h : Written} {file hash rule : List ℕ} → file ≡ e.file → hash ≡ e.hash → rule ≡ e.rule →
    Adds a b (Token.begin_object ∷ []) →
    Adds b c (member_tokens (codes "file") (string file)) → Adds c d (member_tokens (codes "hash") (string hash)) →
    Adds d f (Token.key (codes "ordinal") ∷ Token.number (decimal e.ordinal) ∷ []) →
    Adds f g (member_tokens (codes "rule") (string rule)) → Adds g h (Token.end_object ∷ []) →
    Adds a h (json_tokens (entry_json e))
unfolding entry_json
entry_written e {a} {b} {c} {d} {f} {g} {h} same_file same_hash same_rule p q r s t u =
    let file = subst (λ x. Adds b c (member_tokens (codes "file") (string x))) same_file q in
    let hash = subst (λ x. Adds c d (member_tokens (codes "hash") (string x))) same_hash r in
    let rule = subst (λ x. Adds f g (member_tokens (codes "rule") (string x))) same_rule t in
    adds_more p (adds_more file (adds_more hash (adds_more s (adds_more rule u))))

-- the bytes of a writer that began with none
pub line_written : (e : Entry) (old new : Written) (bytes : List ℕ) → old.before ≡ [] → old.tokens ≡ [] →
    Adds old new (json_tokens (entry_json e)) → bytes ≡ new.before ++ print new.tokens → bytes ≡ entry_line e
unfolding entry_line
line_written e old new bytes none empty h is =
    let before : new.before ≡ [] = h.before ∙ none in
    let all : new.tokens ≡ json_tokens (entry_json e) = h.tokens ∙ ap (λ l. l ++ json_tokens (entry_json e)) empty in
    is ∙ ap (λ l. l ++ print new.tokens) before ∙ ap print all
