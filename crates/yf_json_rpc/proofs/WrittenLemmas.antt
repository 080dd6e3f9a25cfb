-- Written messages read back.
use Rattle.std.proofs.Common.{◌≡◌, ℕ, ◌+◌, ◌^◌, ◌<◌, ◌≤◌, true, not, List, [], ◌∷◌, ◌++◌, length, map, reverse, codes, decimal, All, flat_map, refl, ap, ◌∙◌, subst, arith}
use Rattle.std.specs.Char.{digit_value, is_ascii_digit}
use Rattle.std.specs.List.{list_all}
use Rattle.std.specs.Str.Parse.{AllDigits}
use Rattle.std.proofs.lemmas.List.{append_assoc}
use Rattle.std.proofs.lemmas.List.Elements.{All-head, All-tail, All-weaker}
use Rattle.std.proofs.lemmas.List.Sums.{AllPass-from_list_all, list_all-from_AllPass}
use Rattle.std.proofs.lemmas.Bool.{and_from, lt-ltb}
use Rattle.std.proofs.lemmas.Bool.Decides.{nat_tests}
use Rattle.std.proofs.lemmas.Fmt.{decimal_is_IsNumeral}
use Rattle.httparse.specs.Grammar.{AllPass, ReadsSection, crlf, is_ows, is_token, is_token_byte, is_value_byte}
use Rattle.httparse.proofs.TrimLemmas.{AllPass-reverse}
use Rattle.http1.specs.Fields.{Header, is_number}
use Rattle.http1.specs.Head.{are_headers, field_of, is_trimmed_value, section_text, starts_visible}
use Rattle.http1.specs.Text.{eq_ignore_case}
use Rattle.http1.specs.declared.fields.ContentLength.TheVariants as Length
use Rattle.http1.proofs.HeadRoundTrip.{fields_read_back, section_reads_back}
use Rattle.yf_json_rpc.specs.Frames.{IsFrame, frame, length_field}
use Rattle.yf_json_rpc.specs.Streams.{AreFrames, no_frame, one_frame}

-- digits are a value that may be sent, and a number
ascii_digit : (c : ℕ) → digit_value c < 10 → is_ascii_digit c ≡ true
ascii_digit c small = grind (arith, nat_tests)

ascii_digits : (text : List ℕ) → AllDigits 10 text → list_all is_ascii_digit text ≡ true
ascii_digits [] all = refl
ascii_digits (c ∷ cs) all = and_from (is_ascii_digit c) (list_all is_ascii_digit cs) (ascii_digit c all.0)
    (ascii_digits cs all.1)

visible_digit : (c : ℕ) → is_ascii_digit c ≡ true → (not (is_ows c) ≡ true) × (is_value_byte c ≡ true)
visible_digit c digit = grind (arith, nat_tests)

digits_begin : (text : List ℕ) → AllPass is_ascii_digit text → starts_visible text ≡ true
digits_begin [] all = refl
digits_begin (c ∷ cs) all = (visible_digit c (All-head (λ b. is_ascii_digit b ≡ true) c cs all)).0

trimmed_digits : (text : List ℕ) → AllDigits 10 text → is_trimmed_value text ≡ true
trimmed_digits text digits =
    let all = AllPass-from_list_all is_ascii_digit text (ascii_digits text digits) in
    let values = All-weaker (λ b. is_ascii_digit b ≡ true) (λ b. is_value_byte b ≡ true)
    (λ b digit. (visible_digit b digit).1) text all in
    and_from _ _ (digits_begin text all)
    (and_from _ _ (digits_begin (reverse text) (AllPass-reverse is_ascii_digit text all))
    (list_all-from_AllPass is_value_byte text values))

-- the one header
abbrev length_header : ℕ → Header
length_header n = (codes "Content-Length", decimal n)

is_name : is_token (codes "Content-Length") ≡ true
unfolding is_token_byte
is_name = refl

may_be_sent : (n : ℕ) → n < 2 ^ 64 → are_headers (length_header n ∷ []) ≡ true
unfolding are_headers
may_be_sent n h =
    let digits = decimal_is_IsNumeral n h in
    and_from _ _ (and_from _ _ is_name (trimmed_digits (decimal n) digits.0.1)) refl

named : (n : ℕ) → eq_ignore_case (codes "Content-Length") (codes "content-length") ≡ true
unfolding eq_ignore_case
named n = refl

says : (n : ℕ) → n < 2 ^ 64 → length_field (length_header n ∷ []) ≡ Length.Value n
says n h =
    let digits = decimal_is_IsNumeral n h in
    let number : is_number (decimal n) ≡ true = and_from _ _ (lt-ltb _ _ digits.0.0)
    (and_from _ _ (ascii_digits (decimal n) digits.0.1) (lt-ltb _ _ (omega (arith, digits.1)))) in
    rw (named n, number) (ap Length.Value digits.1)

frame_text : (body rest : List ℕ) → section_text [] (length_header (length body) ∷ []) ++ (body ++ rest)
    ≡ frame body ++ rest
frame_text body rest = simp (append_assoc)

pub written_reads : (limit : ℕ) (body rest : List ℕ) → limit < 2 ^ 64 → length body ≤ limit
    → IsFrame (frame body ++ rest) limit body rest
written_reads limit body rest fits short =
    let n = length body in
    let small : length body < 2 ^ 64 = omega arith in
    let hs = length_header (length body) ∷ [] in
    let valid = may_be_sent (length body) small in
    record {
      fields = map field_of (length_header (length body) ∷ []);
      last = crlf;
      few = omega arith;
      reads = subst (λ z. ReadsSection z (map field_of (length_header (length body) ∷ [])) crlf (body ++ rest))
          (frame_text body rest) (section_reads_back (length_header (length body) ∷ []) (body ++ rest) valid).0;
      size = ap length_field (fields_read_back (length_header (length body) ∷ []) valid) ∙ says (length body) small;
      short = short;
    }

pub streams_read : (limit : ℕ) (bodies : List (List ℕ)) → limit < 2 ^ 64 → All (λ body. length body ≤ limit) bodies
    → AreFrames limit (flat_map frame bodies) bodies
streams_read limit [] fits all = no_frame
streams_read limit (body ∷ bodies) fits all =
    one_frame (written_reads limit body (flat_map frame bodies) fits (All-head (λ z. length z ≤ limit) body bodies all))
    (streams_read limit bodies fits (All-tail (λ z. length z ≤ limit) body bodies all))
