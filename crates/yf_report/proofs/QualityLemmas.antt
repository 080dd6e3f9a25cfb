-- The digests that were seen are counted, and the Code Quality report is written as its tokens.
use Rattle.std.proofs.Common.{◌≡◌, ℕ, ◌+◌, ◌^◌, ◌<◌, ◌≤◌, Bool, true, false, List, [], ◌∷◌, ◌++◌, length, map, drop}
use Rattle.std.proofs.Common.{get_or, Some, String, codes, refl, sym, ap, ◌∙◌, subst, arith, append_assoc}
use Rattle.std.proofs.Common.{if◌then◌else◌}
use Rattle.std.specs.Prelude.{bytes_eq}
use Rattle.std.specs.Option.{unwrap_or}
use Rattle.std.specs.Map.{update}
use Rattle.std.specs.HashMap.{HashMap, IsEmpty, get_by_text}
use Rattle.std.proofs.lemmas.Cmp.{nat_list_eq_equiv}
use Rattle.std.proofs.lemmas.List.{drop_all, drop_more}
use Rattle.std.proofs.lemmas.Slice.Eq.{bytes_eq-Decides}
use Rattle.json.specs.Token.{Token}
use Rattle.json.specs.Json.{string, max_depth}
use Rattle.json.specs.Tree.{json_tokens, items_tokens, depth, items_depth}
use Rattle.json.specs.Written.{Written}
use Rattle.yf_report.specs.declared.problem.Problem.{Problem}
use Rattle.yf_report.specs.Members.{Adds, member_tokens}
use Rattle.yf_report.specs.Problems.{Finding, finding_of}
use Rattle.yf_report.specs.CodeQuality.{Entry, entry_of, place_digest, occurrences, fingerprint, gitlab_severity}
use Rattle.yf_report.specs.CodeQuality.{location_json, entry_json, entry_items, quality_json, count_of, CountsOneMore}
use Rattle.yf_report.proofs.JsonLemmas.{adds_more}

-- ---- counts

-- a digest is counted once more if its count is set to one more
pub counts_one_more : {Y S : Type 0} (old new : HashMap (String Y) ℕ S) (digest : List ℕ) (next : ℕ) →
    next ≡ count_of old digest + 1 →
    ((other : List ℕ) → get_by_text new other ≡ update bytes_eq (get_by_text old) digest (Some next) other) →
    CountsOneMore old new digest
counts_one_more old new digest next e sets other =
    ap (λ o. unwrap_or o 0) (sets other) ∙ cases (bytes_eq digest other) refl
  where
    cases : (b : Bool) → bytes_eq digest other ≡ b →
        unwrap_or (if bytes_eq digest other then Some next else get_by_text old other) 0 ≡
        (if bytes_eq other digest then 1 else 0) + count_of old other
    cases true same =
        let equal : digest ≡ other = (bytes_eq-Decides digest other).0 same in
        rw (nat_list_eq_equiv.symm other digest, same)
        (omega (arith, e, ap (λ d. count_of old d) equal))
    cases false differs = rw (nat_list_eq_equiv.symm other digest, differs) (omega arith)

pub occurrences-le : (digest : List ℕ) (seen : List (List ℕ)) → occurrences digest seen ≤ length seen
occurrences-le digest [] = omega arith
occurrences-le digest (other ∷ more) =
    elim (bytes_eq digest other) as (λ b. (if b then 1 else 0) + occurrences digest more ≤ length (other ∷ more)) [
      | true ↦ omega (arith, occurrences-le digest more)
      | false ↦ omega (arith, occurrences-le digest more)
    ]

-- ---- tokens

abbrev pub left_entries : List (List ℕ) → List Problem → List Token
left_entries seen ps = items_tokens (entry_items seen (map entry_of ps))

abbrev pub digest_at : List Problem → ℕ → Problem → List ℕ
digest_at ps i d = place_digest (entry_of (get_or ps i d))

pub entries_more : (old new : Written) {all : List Token} (i : ℕ) (ps : List Problem) (d : Problem)
    (seen : List (List ℕ)) (n : ℕ) → i < length ps → n ≡ occurrences (digest_at ps i d) seen →
    Adds old new (json_tokens (entry_json (finding_of (get_or ps i d)) (fingerprint (digest_at ps i d) n))) →
    old.tokens ++ left_entries seen (drop i ps) ≡ all →
    new.tokens ++ left_entries (digest_at ps i d ∷ seen) (drop (i + 1) ps) ≡ all
entries_more old new i ps d seen n within e h before =
    let f = finding_of (get_or ps i d) in
    let rest = left_entries (digest_at ps i d ∷ seen) (drop (i + 1) ps) in
    ap (λ l. l ++ rest) h.tokens
    ∙ append_assoc old.tokens (json_tokens (entry_json f (fingerprint (digest_at ps i d) n))) rest
    ∙ ap (λ m. old.tokens ++ (json_tokens (entry_json f (fingerprint (digest_at ps i d) m)) ++ rest)) e
    ∙ ap (λ l. old.tokens ++ left_entries seen l) (sym (drop_more ps i d within))
    ∙ before

-- the problems before the index are written, and their digests are counted
pub record WrittenSoFar {Y S : Type 0} (out : Written) (counts : HashMap (String Y) ℕ S) (i : ℕ)
    (ps : List Problem) : Type 0 where
  pub seen : List (List ℕ)
  pub before : out.before ≡ []
  pub seen_len : length seen ≡ i
  pub counted : (digest : List ℕ) → count_of counts digest ≡ occurrences digest seen
  pub tokens : out.tokens ++ left_entries seen (drop i ps) ≡ json_tokens (quality_json (map entry_of ps))

pub so_far_none : {Y S : Type 0} (out : Written) (counts : HashMap (String Y) ℕ S) (ps : List Problem) →
    IsEmpty counts → out.before ≡ [] → out.tokens ≡ Token.begin_array ∷ [] → WrittenSoFar out counts 0 ps
so_far_none out counts ps empty before begun = record {
  seen = [];
  before = before;
  seen_len = refl;
  counted = λ digest. rw empty refl;
  tokens = ap (λ l. l ++ left_entries [] ps) begun;
}

pub so_far_more : {Y S : Type 0} (old new : Written) (m n : HashMap (String Y) ℕ S) (i : ℕ) (ps : List Problem)
    (d : Problem) → WrittenSoFar old m i ps → i < length ps →
    Adds old new (json_tokens (entry_json (finding_of (get_or ps i d))
    (fingerprint (digest_at ps i d) (count_of m (digest_at ps i d))))) →
    CountsOneMore m n (digest_at ps i d) → WrittenSoFar new n (i + 1) ps
so_far_more old new m n i ps d so_far within h counted = record {
  seen = digest_at ps i d ∷ so_far.seen;
  before = h.before ∙ so_far.before;
  seen_len = omega (arith, so_far.seen_len);
  counted = λ digest. omega (arith, counted digest, so_far.counted digest);
  tokens = entries_more old new i ps d so_far.seen (count_of m (digest_at ps i d)) within
      (so_far.counted (digest_at ps i d)) h so_far.tokens;
}

-- a digest occurred at most once for each problem before
pub room_for_one : {Y S : Type 0} (out : Written) (counts : HashMap (String Y) ℕ S) (i : ℕ) (ps : List Problem)
    (digest : List ℕ) → WrittenSoFar out counts i ps → i + 1 < 2 ^ 64 → count_of counts digest + 1 < 2 ^ 64
room_for_one out counts i ps digest so_far small =
    omega (arith, so_far.counted digest, so_far.seen_len, occurrences-le digest so_far.seen)

pub so_far_all : {Y S : Type 0} (w v : Written) (counts : HashMap (String Y) ℕ S) (i : ℕ) (ps : List Problem) →
    WrittenSoFar w counts i ps → length ps ≤ i → v.tokens ≡ w.tokens ++ Token.end_array ∷ [] →
    v.tokens ≡ json_tokens (quality_json (map entry_of ps))
so_far_all w v counts i ps so_far over ended =
    ended ∙ ap (λ l. w.tokens ++ left_entries so_far.seen l) (sym (drop_all i ps over)) ∙ so_far.tokens

pub issue_written : (f : Finding) (mark severity : List ℕ) {a b c d e g h i : Written} →
    severity ≡ gitlab_severity f.severity → Adds a b (Token.begin_object ∷ []) →
    Adds b c (member_tokens (codes "description") (string f.message)) →
    Adds c d (member_tokens (codes "check_name") (string f.rule)) →
    Adds d e (member_tokens (codes "fingerprint") (string mark)) →
    Adds e g (member_tokens (codes "severity") (string severity)) →
    Adds g h (member_tokens (codes "location") (location_json f)) → Adds h i (Token.end_object ∷ []) →
    Adds a i (json_tokens (entry_json f mark))
unfolding entry_json
issue_written f mark severity {a} {b} {c} {d} {e} {g} {h} {i} same p q r s t u v =
    let named = subst (λ n. Adds e g (member_tokens (codes "severity") (string n))) same t in
    adds_more p (adds_more q (adds_more r (adds_more s (adds_more named (adds_more u v)))))

-- ---- depth

entry_depth : (f : Finding) (mark : List ℕ) → depth (entry_json f mark) ≤ 4
unfolding entry_json
entry_depth f mark = omega arith

entries_depth : (seen : List (List ℕ)) (es : List Entry) → items_depth (entry_items seen es) ≤ 4
entries_depth seen [] = omega arith
entries_depth seen (e ∷ es) =
    omega (
      arith,
      entry_depth e.finding (fingerprint (place_digest e) (occurrences (place_digest e) seen)),
      entries_depth (place_digest e ∷ seen) es,
    )

pub quality_depth : (es : List Entry) → depth (quality_json es) ≤ max_depth
quality_depth es = omega (arith, entries_depth [] es)
