-- The text of a baseline is JSON: its tokens, with line feeds before some of them.
use Rattle.std.proofs.Common.{◌≡◌, ℕ, ◌-◌, ◌≤◌, Bool, true, false, List, [], ◌∷◌, ◌++◌, length, map, fold}
use Rattle.std.proofs.Common.{Some, option_and_then, codes, decimal, inr}
use Rattle.std.proofs.Common.{refl, sym, ap, ◌∙◌, subst, arith, append_assoc, append-nil, length-append}
use Rattle.std.specs.Prelude.{slice_index}
use Rattle.std.proofs.lemmas.List.{get_or_at, take_at}
use Rattle.json.specs.Token.{Token}
use Rattle.json.specs.Lex.{tokens}
use Rattle.json.specs.Json.{document, if_last, value, max_depth}
use Rattle.json.specs.Print.{print_from, ends, escape_byte, ArePrintable}
use Rattle.json.specs.Spaced.{AreGaps, print_spaced}
use Rattle.json.specs.Tree.{json_tokens, items_tokens, items_depth, ItemsHaveNumbers}
use Rattle.json.specs.Word.{after_number}
use Rattle.json.proofs.Printed.Tokens.{tokens-print_spaced}
use Rattle.json.proofs.Printed.Trees.{ArePrintable-json_tokens, value-json_tokens}
use Rattle.json.proofs.Printed.Decimals.{IsNumber-decimal}
use Rattle.yf_baseline.specs.Baselines.{AllFit, baseline_json, baseline_text, entry_items, entry_json, entry_line}
use Rattle.yf_baseline.specs.Baselines.{lines_text, without_feed}
use Rattle.yf_baseline.specs.declared.entry.Entry.{Entry}

-- a token with nothing before it
abbrev plain : Token → List ℕ × Token
plain t = ([], t)

spaced_plain : (c : Bool) (ts : List Token) (ps : List (List ℕ × Token)) →
    print_spaced c (map plain ts ++ ps) ≡ print_from c ts ++ print_spaced (fold (λ _ u. ends u) c ts) ps
unfolding print_spaced print_from
spaced_plain c [] ps = refl
spaced_plain c (t ∷ ts) ps = rw (spaced_plain (ends t) ts ps) (simp append_assoc)

-- the tokens of an entry after its first one
abbrev inside : Entry → List Token
inside e =
    Token.key (codes "file") ∷ Token.string e.file
    ∷ Token.key (codes "hash") ∷ Token.string e.hash
    ∷ Token.key (codes "ordinal") ∷ Token.number (decimal e.ordinal)
    ∷ Token.key (codes "rule") ∷ Token.string e.rule ∷ Token.end_object ∷ []

abbrev head : List Token
head = Token.begin_object ∷ Token.key (codes "findings") ∷ Token.begin_array ∷ []

-- the tokens after the array
abbrev version : List Token
version = Token.key (codes "version") ∷ Token.number (codes "1") ∷ Token.end_object ∷ []

abbrev spaced_entries : List Entry → List (List ℕ × Token)
spaced_entries [] = (10 ∷ [], Token.end_array) ∷ map plain version
spaced_entries (e ∷ es) = (10 ∷ [], Token.begin_object) ∷ (map plain (inside e) ++ spaced_entries es)

abbrev spaced : List Entry → List (List ℕ × Token)
spaced es = map plain head ++ spaced_entries es

-- ---- the text

abbrev tail : List ℕ
tail = codes "\n],\"version\":1}"

inside_text : (e : Entry) (ps : List (List ℕ × Token)) (text : List ℕ) → print_spaced true ps ≡ text →
    print_spaced false (map plain (inside e) ++ ps) ≡ print_from false (inside e) ++ text
inside_text e ps text h = spaced_plain false (inside e) ps ∙ ap (λ l. print_from false (inside e) ++ l) h

line_is : (e : Entry) → entry_line e ≡ 123 ∷ print_from false (inside e)
unfolding entry_line entry_json print_from
line_is e = refl

entries_text : (after : Bool) (es : List Entry) → print_spaced after (spaced_entries es) ≡ lines_text after es ++ tail
unfolding print_spaced escape_byte
entries_text true [] = refl
entries_text false [] = refl
entries_text true (e ∷ es) =
    ap (λ l. 44 ∷ 10 ∷ 123 ∷ l) (inside_text e (spaced_entries es) _ (entries_text true es) ∙ sym (append_assoc (print_from false (inside e)) (lines_text true es) tail))
    ∙ ap (λ l. 44 ∷ 10 ∷ ((l ++ lines_text true es) ++ tail)) (sym (line_is e))
entries_text false (e ∷ es) =
    ap (λ l. 10 ∷ 123 ∷ l) (inside_text e (spaced_entries es) _ (entries_text true es) ∙ sym (append_assoc (print_from false (inside e)) (lines_text true es) tail))
    ∙ ap (λ l. 10 ∷ ((l ++ lines_text true es) ++ tail)) (sym (line_is e))

head_text : print_from false head ≡ codes "{\"findings\":["
unfolding print_from escape_byte
head_text = refl

-- the text without the line feed at its end
abbrev pub body : List Entry → List ℕ
body es = (codes "{\"findings\":[" ++ lines_text false es) ++ tail

body_is : (es : List Entry) → print_spaced false (spaced es) ≡ body es
body_is es =
    spaced_plain false head (spaced_entries es)
    ∙ ap (λ l. l ++ print_spaced false (spaced_entries es)) head_text
    ∙ ap (λ l. codes "{\"findings\":[" ++ l) (entries_text false es)
    ∙ sym (append_assoc (codes "{\"findings\":[") (lines_text false es) tail)

without_feed-push : (text : List ℕ) → without_feed (text ++ 10 ∷ []) ≡ text
without_feed-push text =
    let long : length (text ++ 10 ∷ []) - 1 ≡ length text = omega (arith, length-append text (10 ∷ [])) in
    let last : slice_index (text ++ 10 ∷ []) (length text) ≡ 10 = get_or_at text 10 [] 0 (length text) refl in
    rw (long, last) (take_at text (10 ∷ []) (length text) refl)

pub without_feed-text : (es : List Entry) → without_feed (baseline_text es) ≡ body es
without_feed-text es =
    ap without_feed (sym (append_assoc (codes "{\"findings\":[" ++ lines_text false es) tail (10 ∷ [])))
    ∙ without_feed-push (body es)

-- ---- the tokens

entries_tokens : (es : List Entry) → map (λ p. p.1) (spaced_entries es) ≡ items_tokens (entry_items es) ++ version
unfolding entry_json
entries_tokens [] = refl
entries_tokens (e ∷ es) = ap (λ l. Token.begin_object ∷ (inside e ++ l)) (entries_tokens es)

spaced_tokens : (es : List Entry) → map (λ p. p.1) (spaced es) ≡ json_tokens (baseline_json es)
spaced_tokens es = ap (λ l. head ++ l) (entries_tokens es)

plain_gaps : (ts : List Token) (ps : List (List ℕ × Token)) → AreGaps ps → AreGaps (map plain ts ++ ps)
plain_gaps [] ps h = h
plain_gaps (t ∷ ts) ps h = (tt, plain_gaps ts ps h)

entries_gaps : (es : List Entry) → AreGaps (spaced_entries es)
entries_gaps [] = ((inr refl, tt), plain_gaps version [] tt)
entries_gaps (e ∷ es) = ((inr refl, tt), plain_gaps (inside e) (spaced_entries es) (entries_gaps es))

items_numbers : (es : List Entry) → AllFit es → ItemsHaveNumbers (entry_items es)
unfolding entry_json
items_numbers [] h = tt
items_numbers (e ∷ es) h = ((tt, (tt, (IsNumber-decimal e.ordinal h.0, (tt, tt)))), items_numbers es h.1)

items_shallow : (es : List Entry) → items_depth (entry_items es) ≤ 1
unfolding entry_json
items_shallow [] = omega arith
items_shallow (e ∷ es) = omega (arith, items_shallow es)

-- the grammar reads the text as the value
pub document-body : (es : List Entry) → AllFit es → document (body es) ≡ Some (baseline_json es)
unfolding after_number
document-body es fits =
    let j = baseline_json es in
    let printable = subst ArePrintable (sym (spaced_tokens es))
    (ArePrintable-json_tokens j (items_numbers es fits, (refl, tt))) in
    let read : tokens (body es) ≡ json_tokens j = ap tokens (sym (body_is es))
    ∙ tokens-print_spaced (spaced es) (plain_gaps head (spaced_entries es) (entries_gaps es)) printable
    ∙ spaced_tokens es in
    ap (option_and_then (λ p. if_last p.0 p.1)) (ap (value max_depth) (read ∙ sym (append-nil (json_tokens j)))
    ∙ value-json_tokens j max_depth [] (omega (arith, items_shallow es)))
