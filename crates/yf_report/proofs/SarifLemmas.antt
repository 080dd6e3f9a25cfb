-- The SARIF log is written as its tokens, and nests no deeper than a reader allows.
use Rattle.std.proofs.Common.{◌≡◌, ℕ, ◌+◌, ◌<◌, ◌≤◌, List, [], ◌∷◌, ◌++◌, length, map, drop, get_or, Bool, Option}
use Rattle.std.proofs.Common.{◌==◌, false, None, Some, codes, refl, sym, ap, ◌∙◌, subst, arith, append_assoc}
use Rattle.std.proofs.lemmas.List.{drop_all, drop_more}
use Rattle.json.specs.Token.{Token}
use Rattle.json.specs.Json.{Members, array, member, no_members, object, string, item, no_items, max_depth}
use Rattle.json.specs.Tree.{json_tokens, items_tokens, members_tokens, depth, items_depth, members_depth}
use Rattle.json.specs.Written.{Written}
use Rattle.yf_report.specs.declared.problem.Problem.{Problem}
use Rattle.yf_report.specs.declared.problem.Range.{Range}
use Rattle.yf_report.specs.declared.sarif.Rule.{Rule}
use Rattle.yf_report.specs.Members.{Adds, member_tokens}
use Rattle.yf_report.specs.declared.problem.Replacement.{Replacement}
use Rattle.yf_report.specs.Problems.{Note, severity_name}
use Rattle.yf_report.specs.Fixes.{Fixed, Replaced, fixed_of, replaced}
use Rattle.yf_report.specs.Sarif.{Described, described, uri_of, text_json, location_json, properties_json}
use Rattle.yf_report.specs.Sarif.{related_members, related_tokens, result_json, result_items}
use Rattle.yf_report.specs.Sarif.{inserted_members, inserted_tokens, replacement_json, replacement_items}
use Rattle.yf_report.specs.Sarif.{fix_members, fix_tokens, region_json}
use Rattle.yf_report.specs.Sarif.{rule_json, rule_items, log_json, head_tokens, tool_json}
use Rattle.yf_report.proofs.JsonLemmas.{adds_more}

-- ---- a list of values, one after another

-- the tokens of a list that are still to be written, before and after one more
pub item_more : {old new : Written} {all : List Token} (ts more : List Token) {left : List Token} →
    left ≡ ts ++ more → Adds old new ts → old.tokens ++ left ≡ all → new.tokens ++ more ≡ all
item_more {old} {new} ts more e h before =
    ap (λ l. l ++ more) h.tokens ∙ append_assoc old.tokens ts more ∙ ap (λ l. old.tokens ++ l) (sym e) ∙ before

abbrev pub left_rules : List Rule → List Token
left_rules rs = items_tokens (rule_items (map described rs))

abbrev pub left_results : List Problem → List Token
left_results ps = items_tokens (result_items (map fixed_of ps))

pub rules_more : {old new : Written} {all : List Token} (i : ℕ) (rs : List Rule) (d : Rule) → i < length rs →
    Adds old new (json_tokens (rule_json (described (get_or rs i d)))) →
    old.tokens ++ left_rules (drop i rs) ≡ all → new.tokens ++ left_rules (drop (i + 1) rs) ≡ all
rules_more i rs d within h before =
    item_more (json_tokens (rule_json (described (get_or rs i d)))) (left_rules (drop (i + 1) rs))
    (ap left_rules (drop_more rs i d within)) h before

pub results_more : {old new : Written} {all : List Token} (i : ℕ) (ps : List Problem) (d : Problem) → i < length ps →
    Adds old new (json_tokens (result_json (fixed_of (get_or ps i d)))) →
    old.tokens ++ left_results (drop i ps) ≡ all → new.tokens ++ left_results (drop (i + 1) ps) ≡ all
results_more i ps d within h before =
    item_more (json_tokens (result_json (fixed_of (get_or ps i d)))) (left_results (drop (i + 1) ps))
    (ap left_results (drop_more ps i d within)) h
    before

-- a list with all values written, and its closing bracket
list_end : (old w v : Written) (left items : List Token) → left ≡ Token.end_array ∷ [] →
    w.before ≡ old.before → w.tokens ++ left ≡ old.tokens ++ items → Adds w v (Token.end_array ∷ []) → Adds old v items
list_end old w v left items none before written h = record {
  before = h.before ∙ before;
  tokens = h.tokens ∙ ap (λ l. w.tokens ++ l) (sym none) ∙ written;
}

pub rules_end : (i : ℕ) (rs : List Rule) (old w v : Written) → length rs ≤ i → w.before ≡ old.before →
    w.tokens ++ left_rules (drop i rs) ≡ old.tokens ++ json_tokens (array (rule_items (map described rs))) →
    Adds w v (Token.end_array ∷ []) → Adds old v (json_tokens (array (rule_items (map described rs))))
rules_end i rs old w v all before written h =
    list_end old w v (left_rules (drop i rs)) _ (ap left_rules (drop_all i rs all)) before written h

abbrev pub left_replacements : List Replacement → List Token
left_replacements rs = items_tokens (replacement_items (map replaced rs))

pub replacements_more : {old new : Written} {all : List Token} (i : ℕ) (rs : List Replacement) (d : Replacement) →
    i < length rs → Adds old new (json_tokens (replacement_json (replaced (get_or rs i d)))) →
    old.tokens ++ left_replacements (drop i rs) ≡ all → new.tokens ++ left_replacements (drop (i + 1) rs) ≡ all
replacements_more i rs d within h before =
    item_more (json_tokens (replacement_json (replaced (get_or rs i d)))) (left_replacements (drop (i + 1) rs))
    (ap left_replacements (drop_more rs i d within)) h before

pub replacements_end : (i : ℕ) (rs : List Replacement) (old w v : Written) → length rs ≤ i →
    w.before ≡ old.before → w.tokens ++ left_replacements (drop i rs)
    ≡ old.tokens ++ json_tokens (array (replacement_items (map replaced rs))) →
    Adds w v (Token.end_array ∷ []) → Adds old v (json_tokens (array (replacement_items (map replaced rs))))
replacements_end i rs old w v all before written h =
    list_end old w v (left_replacements (drop i rs)) _ (ap left_replacements (drop_all i rs all)) before written h

pub results_end : (i : ℕ) (ps : List Problem) (old w v : Written) → length ps ≤ i → w.before ≡ old.before →
    w.tokens ++ left_results (drop i ps) ≡ old.tokens ++ json_tokens (array (result_items (map fixed_of ps))) →
    Adds w v (Token.end_array ∷ []) → Adds old v (json_tokens (array (result_items (map fixed_of ps))))
results_end i ps old w v all before written h =
    list_end old w v (left_results (drop i ps)) _ (ap left_results (drop_all i ps all)) before written h

-- ---- parts, one after another

pub rule_written : (r : Described) {a b c d e g : Written} → Adds a b (Token.begin_object ∷ []) →
    Adds b c (member_tokens (codes "id") (string r.id)) →
    Adds c d (member_tokens (codes "shortDescription") (text_json r.summary)) →
    Adds d e (member_tokens (codes "help") (text_json r.help)) → Adds e g (Token.end_object ∷ []) →
    Adds a g (json_tokens (rule_json r))
unfolding rule_json
rule_written r p q s t u = adds_more p (adds_more q (adds_more s (adds_more t u)))

related_tokens_are : (uri : List ℕ) (related : Option Note) (more : Members) →
    related_tokens uri related ++ (members_tokens more) ≡ members_tokens (related_members uri related more)
related_tokens_are uri None more = refl
related_tokens_are uri (Some n) more = refl

fix_tokens_are : (uri : List ℕ) (fix : List Replaced) (more : Members) →
    fix_tokens uri fix ++ (members_tokens more) ≡ members_tokens (fix_members uri fix more)
fix_tokens_are uri [] more = refl
fix_tokens_are uri (r ∷ rs) more = refl

-- the members of a result from the other place on
last_written : (uri : List ℕ) (related : Option Note) (fix : List Replaced) (fixable : Bool) {a b c d e : Written} →
    Adds a b (related_tokens uri related) → Adds b c (fix_tokens uri fix) →
    Adds c d (member_tokens (codes "properties") (properties_json fixable)) → Adds d e (Token.end_object ∷ []) →
    Adds a e (members_tokens (related_members uri related (fix_members uri fix
    (member (codes "properties") (properties_json fixable) no_members))))
last_written uri related fix fixable {a} {b} {c} {d} {e} p q r s =
    let more = member (codes "properties") (properties_json fixable) no_members in
    let fixed = subst (Adds b e) (fix_tokens_are uri fix more) (adds_more q (adds_more r s)) in
    subst (Adds a e) (related_tokens_are uri related (fix_members uri fix more)) (adds_more p fixed)

pub result_written : (f : Fixed) (uri : List ℕ) {a b c d e g h i j k : Written} → uri ≡ uri_of f.finding.file →
    Adds a b (Token.begin_object ∷ []) → Adds b c (member_tokens (codes "ruleId") (string f.finding.rule)) →
    Adds c d (member_tokens (codes "level") (string (severity_name f.finding.severity))) →
    Adds d e (member_tokens (codes "message") (text_json f.finding.message)) →
    Adds e g (member_tokens (codes "locations") (array (item (location_json uri f.finding.range) no_items))) →
    Adds g h (related_tokens uri f.finding.related) → Adds h i (fix_tokens uri f.fix) →
    Adds i j (member_tokens (codes "properties") (properties_json f.finding.fixable)) →
    Adds j k (Token.end_object ∷ []) → Adds a k (json_tokens (result_json f))
unfolding result_json
result_written f uri {a} {b} {c} {d} {e} {g} {h} {i} {j} {k} same p q r s t u v w x =
    let last = last_written uri f.finding.related f.fix f.finding.fixable u v w x in
    let all = adds_more p (adds_more q (adds_more r (adds_more s (adds_more t last)))) in
    subst (λ n. Adds a k (json_tokens (object (member (codes "ruleId") (string f.finding.rule)
    (member (codes "level") (string (severity_name f.finding.severity))
    (member (codes "message") (text_json f.finding.message)
    (member (codes "locations") (array (item (location_json n f.finding.range) no_items))
    (related_members n f.finding.related (fix_members n f.fix
    (member (codes "properties") (properties_json f.finding.fixable) no_members))))))))))
    same all

inserted_tokens_are : (text : List ℕ) →
    inserted_tokens text ++ Token.end_object ∷ [] ≡ members_tokens (inserted_members text)
inserted_tokens_are [] = refl
inserted_tokens_are (c ∷ text) = refl

-- a text that is not empty
pub inserted_some : (text : List ℕ) {a b : Written} → (length text == 0) ≡ false →
    Adds a b (member_tokens (codes "insertedContent") (text_json text)) → Adds a b (inserted_tokens text)
inserted_some [] some p = absurd cc
inserted_some (c ∷ text) some p = p

pub replacement_written : (r : Replaced) {a b c d e : Written} → Adds a b (Token.begin_object ∷ []) →
    Adds b c (member_tokens (codes "deletedRegion") (region_json r.range)) → Adds c d (inserted_tokens r.text) →
    Adds d e (Token.end_object ∷ []) → Adds a e (json_tokens (replacement_json r))
replacement_written r {a} {b} {c} {d} {e} p q s t =
    adds_more p (adds_more q (subst (Adds c e) (inserted_tokens_are r.text) (adds_more s t)))

pub log_written : (rs : List Described) (fs : List Fixed) {a b c d e g h i j : Written} → Adds a b head_tokens →
    Adds b c (member_tokens (codes "tool") (tool_json rs)) →
    Adds c d (member_tokens (codes "columnKind") (string (codes "unicodeCodePoints"))) →
    Adds d e (Token.key (codes "results") ∷ []) → Adds e g (json_tokens (array (result_items fs))) →
    Adds g h (Token.end_object ∷ []) → Adds h i (Token.end_array ∷ []) → Adds i j (Token.end_object ∷ []) →
    Adds a j (json_tokens (log_json rs fs))
log_written rs fs p q r s t u v w =
    adds_more p (adds_more (adds_more (adds_more q (adds_more r (adds_more s (adds_more t u)))) v) w)

-- ---- depth

rule_depth : (r : Described) → depth (rule_json r) ≤ 2
unfolding rule_json
rule_depth r = omega arith

rules_depth : (rs : List Described) → items_depth (rule_items rs) ≤ 2
rules_depth [] = omega arith
rules_depth (r ∷ rs) = omega (arith, rule_depth r, rules_depth rs)

replacement_depth : (range : Range) (text : List ℕ) →
    depth (replacement_json (record { range = range; text = text })) ≤ 2
replacement_depth range [] = omega arith
replacement_depth range (c ∷ text) = omega arith

replacements_depth : (rs : List Replaced) → items_depth (replacement_items rs) ≤ 2
replacements_depth [] = omega arith
replacements_depth (r ∷ rs) = omega (arith, replacement_depth r.range r.text, replacements_depth rs)

fix_depth : (uri : List ℕ) (fix : List Replaced) (fixable : Bool) →
    members_depth (fix_members uri fix (member (codes "properties") (properties_json fixable) no_members)) ≤ 8
fix_depth uri [] fixable = omega arith
fix_depth uri (r ∷ rs) fixable = omega (arith, replacements_depth (r ∷ rs))

related_depth : (uri : List ℕ) (related : Option Note) (more : Members) → members_depth more ≤ 8 →
    members_depth (related_members uri related more) ≤ 8
related_depth uri None more within = within
related_depth uri (Some n) more within = omega (arith, within)

result_depth : (f : Fixed) → depth (result_json f) ≤ 9
unfolding result_json
result_depth f =
    let uri = uri_of f.finding.file in
    let more = fix_members uri f.fix (member (codes "properties") (properties_json f.finding.fixable) no_members) in
    omega (arith, related_depth uri f.finding.related more (fix_depth uri f.fix f.finding.fixable))

results_depth : (fs : List Fixed) → items_depth (result_items fs) ≤ 9
results_depth [] = omega arith
results_depth (f ∷ fs) = omega (arith, result_depth f, results_depth fs)

pub log_depth : (rs : List Described) (fs : List Fixed) → depth (log_json rs fs) ≤ max_depth
log_depth rs fs = omega (arith, rules_depth rs, results_depth fs)
