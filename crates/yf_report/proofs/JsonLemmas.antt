-- The JSON report is read back as the problems.
use Rattle.std.proofs.Common.{◌≡◌, ℕ, ◌+◌, ◌^◌, ◌<◌, ◌≤◌, List, [], ◌∷◌, ◌++◌, length, map, drop}
use Rattle.std.proofs.Common.{Option, None, Some, option_and_then, decimal, codes}
use Rattle.std.proofs.Common.{refl, sym, ap, ◌∙◌, subst, arith, append_assoc, append-nil}
use Rattle.std.specs.Str.Parse.{digits_value}
use Rattle.std.proofs.lemmas.Fmt.{decimal_is_IsNumeral}
use Rattle.json.specs.Token.{Token}
use Rattle.std.proofs.Common.{get_or}
use Rattle.std.specs.Prelude.{Ok}
use Rattle.std.proofs.lemmas.List.{drop_all, drop_more}
use Rattle.json.specs.Lex.{tokens}
use Rattle.json.specs.Print.{print}
use Rattle.json.specs.Json.{Json, string, boolean, document, if_last, value, max_depth}
use Rattle.json.specs.Tree.{json_tokens, items_tokens, members_tokens, depth, items_depth, members_depth}
use Rattle.json.specs.Written.{Written, Writes}
use Rattle.json.proofs.Printed.Trees.{value-json_tokens}
use Rattle.yf_report.specs.declared.problem.Range.{Range}
use Rattle.yf_report.specs.declared.problem.Severity.{Severity}
use Rattle.yf_report.specs.declared.problem.Severity.TheVariants.{Error, Warning}
use Rattle.yf_report.specs.declared.problem.Problem.{Problem}
use Rattle.yf_report.specs.Problems.{Note, Finding, severity_name, finding_of, Fits, NoteFits, FindingFits, AllFit}
use Rattle.yf_report.specs.Members.{Adds, member_tokens}
use Rattle.yf_report.specs.ProblemsJson.{text_or_null, note_json, related_members, range_tokens, related_tokens}
use Rattle.yf_report.specs.ProblemsJson.{finding_json, finding_items, report_json}
use Rattle.yf_report.specs.ProblemsJson.{member_named, string_or_null_in, severity_in}
use Rattle.yf_report.specs.ProblemsJson.{related_in, finding_in, findings_in, findings_from}

-- ---- tokens, one after another

pub adds_more : {a b c : Written} {ts us : List Token} → Adds a b ts → Adds b c us → Adds a c (ts ++ us)
adds_more {a} {b} {c} {ts} {us} h k = record {
  before = k.before ∙ h.before;
  tokens = k.tokens ∙ ap (λ l. l ++ us) h.tokens ∙ append_assoc a.tokens ts us;
}

-- the tokens of the problems that are still to be written, with the closing bracket
abbrev pub left_tokens : List Problem → List Token
left_tokens ps = items_tokens (finding_items (map finding_of ps))

pub written_more : {old new : Written} {all : List Token} (i : ℕ) (ps : List Problem) (d : Problem) →
    i < length ps → Adds old new (json_tokens (finding_json (finding_of (get_or ps i d)))) →
    old.tokens ++ left_tokens (drop i ps) ≡ all → new.tokens ++ left_tokens (drop (i + 1) ps) ≡ all
written_more {old} {new} i ps d within added before =
    ap (λ l. l ++ left_tokens (drop (i + 1) ps)) added.tokens
    ∙ append_assoc old.tokens _ _
    ∙ ap (λ l. old.tokens ++ left_tokens l) (sym (drop_more ps i d within))
    ∙ before

-- a token of the writer
pub added : {old new : Written} {E : Type 0} {u : Unit {0}} {t : Token} →
    Writes {E = E} (Ok u) old new t → Adds old new (t ∷ [])
added w = record { before = w.room.0; tokens = w.ok }

related_end : (related : Option Note) →
    related_tokens related ++ Token.end_object ∷ [] ≡ members_tokens (related_members related)
related_end None = refl
related_end (Some n) = refl

-- the parts of the object of a problem, one after another
pub object_written : (f : Finding) {a b c d e g h i j k : Written} → Adds a b (Token.begin_object ∷ []) →
    Adds b c (member_tokens (codes "file") (text_or_null f.file)) → Adds c d (range_tokens f.range) →
    Adds d e (member_tokens (codes "rule") (string f.rule)) →
    Adds e g (member_tokens (codes "severity") (string (severity_name f.severity))) →
    Adds g h (member_tokens (codes "message") (string f.message)) →
    Adds h i (member_tokens (codes "fixable") (boolean f.fixable)) → Adds i j (related_tokens f.related) →
    Adds j k (Token.end_object ∷ []) → Adds a k (json_tokens (finding_json f))
unfolding finding_json
object_written f {a} {b} {c} {d} {e} {g} {h} {i} {j} {k} p q r s t u v w x =
    adds_more p (adds_more q (adds_more r (adds_more s (adds_more t (adds_more u (adds_more v
    (subst (Adds i k) (related_end f.related) (adds_more w x))))))))

-- the parts of the member of another place, one after another
pub place_written : (n : Note) {a b c d e g : Written} → Adds a b (Token.key (codes "related") ∷ []) →
    Adds b c (Token.begin_object ∷ []) → Adds c d (range_tokens n.range) →
    Adds d e (member_tokens (codes "message") (string n.message)) → Adds e g (Token.end_object ∷ []) →
    Adds a g (member_tokens (codes "related") (note_json n))
place_written n p q r s t = adds_more p (adds_more q (adds_more r (adds_more s t)))

-- ---- the grammar reads the text as the value

note_depth : (related : Option Note) → members_depth (related_members related) ≤ 1
note_depth None = omega arith
note_depth (Some n) = omega arith

finding_depth : (f : Finding) → depth (finding_json f) ≤ 2
unfolding finding_json
finding_depth f = elim f.file as
    (λ file. depth (finding_json (record f { file = file })) ≤ 2)
    [ None ↦ omega (arith, note_depth f.related) | Some s ↦ omega (arith, note_depth f.related) ]

items_depth-finding_items : (fs : List Finding) → items_depth (finding_items fs) ≤ 2
items_depth-finding_items [] = omega arith
items_depth-finding_items (f ∷ fs) = omega (arith, finding_depth f, items_depth-finding_items fs)

pub report_depth : (fs : List Finding) → depth (report_json fs) ≤ max_depth
report_depth fs = omega (arith, items_depth-finding_items fs)

-- all tokens, once no problem is left and the bracket is closed
pub all_tokens : (ps : List Problem) (i : ℕ) (w v : Written) → length ps ≤ i →
    w.tokens ++ left_tokens (drop i ps) ≡ json_tokens (report_json (map finding_of ps)) →
    v.tokens ≡ w.tokens ++ Token.end_array ∷ [] → v.tokens ≡ json_tokens (report_json (map finding_of ps))
all_tokens ps i w v all written ended =
    ended ∙ ap (λ l. w.tokens ++ left_tokens l) (sym (drop_all i ps all)) ∙ written

-- the bytes of a writer that began with none
pub text_is : (ts : List Token) (v : Written) (text : List ℕ) → v.tokens ≡ ts → v.before ≡ [] →
    text ≡ v.before ++ print v.tokens → text ≡ print ts
text_is ts v text all before same = same ∙ ap (λ b. b ++ print v.tokens) before ∙ ap print all

-- the grammar reads the tokens of a value as the value
pub read_is : (j : Json) (v : Written) (text : List ℕ) → depth j ≤ max_depth → v.tokens ≡ json_tokens j →
    v.before ≡ [] → text ≡ v.before ++ print v.tokens → tokens (print v.tokens) ≡ v.tokens → document text ≡ Some j
read_is j v text shallow all before same read =
    let ts = ap tokens (same ∙ ap (λ b. b ++ print v.tokens) before) ∙ read ∙ all ∙ sym (append-nil (json_tokens j)) in
    ap (option_and_then (λ p. if_last p.0 p.1)) (ap (value max_depth) ts ∙ value-json_tokens j max_depth [] shallow)

-- ---- the value gives the problems back

digits_back : (n : ℕ) → n < 2 ^ 64 → digits_value 10 (decimal n) ≡ n
digits_back n small = (decimal_is_IsNumeral n small).1

-- the range, with each number read from its digits
abbrev pub read_range : Range → Range
read_range r = record {
  line = digits_value 10 (decimal r.line);
  column = digits_value 10 (decimal r.column);
  end_line =
      digits_value 10 (decimal r.end_line);
  end_column = digits_value 10 (decimal r.end_column);
}

pub range_back : (r : Range) → Fits r → read_range r ≡ r
range_back r fits = rw (
  digits_back r.line fits.line,
  digits_back r.column fits.column,
  digits_back r.end_line fits.end_line,
  digits_back
      r.end_column fits.end_column,
) refl

file_back : (file : Option (List ℕ)) → string_or_null_in (text_or_null file) ≡ Some file
file_back None = refl
file_back (Some s) = refl

pub severity_back : (s : Severity) → severity_in (string (severity_name s)) ≡ Some s
severity_back Error = refl
severity_back Warning = refl

related_back : (related : Option Note) → NoteFits related →
    related_in (member_named (codes "related") (related_members related)) ≡ Some related
related_back None fits = refl
related_back (Some n) fits = ap (λ r. Some (Some (record { range = r; message = n.message }))) (range_back n.range fits)

finding_back : (f : Finding) → FindingFits f → finding_in (finding_json f) ≡ Some f
unfolding finding_json
finding_back f fits =
    rw (file_back f.file, severity_back f.severity, related_back f.related fits.other)
    (ap (λ r. Some (record f { range = r })) (range_back f.range fits.own))

items_back : (fs : List Finding) → AllFit fs → findings_from (finding_items fs) ≡ Some fs
items_back [] fits = refl
items_back (f ∷ fs) fits = rw (finding_back f fits.0, items_back fs fits.1) refl

pub findings_back : (fs : List Finding) → AllFit fs → findings_in (report_json fs) ≡ Some fs
unfolding findings_in
findings_back fs fits = items_back fs fits

pub reads_back : (fs : List Finding) (text : List ℕ) → document text ≡ Some (report_json fs) → AllFit fs →
    option_and_then findings_in (document text) ≡ Some fs
reads_back fs text e fits = ap (option_and_then findings_in) e ∙ findings_back fs fits
