-- The bytes of a laid-out block scalar are those of yf_block_scalar.
use Rattle.std.proofs.Common.{◌≡◌, ℕ, zero, suc, List, [], ◌∷◌, ◌++◌, map, replicate, Option, Some, None, refl, sym, ap, ◌∙◌, append_assoc}
use Rattle.yf_block_scalar.specs.Content.{feeds}
use Rattle.yf_block_scalar.specs.Placed.{lines_then as scalar_lines, trail_then, IsTrail, trail_texts}
use Rattle.yf_block_scalar.specs.Written.{style_bytes, digit_bytes, sign_bytes}
use Rattle.yf_events.specs.declared.event.ScalarStyle.{ScalarStyle}
use Rattle.yf_forms.specs.Nodes.BlockLines.{begins_with_space, chomping_sign, digit_text, final_feeds, header_text, line_at, style_sign}
use Rattle.yf_laws.specs.Nodes.BlockValues.{is_folded, chomp_of, digit_of}
use Rattle.yf_laws.specs.Layouts.RowComments.{AreTrails}
use Rattle.yf_laws.specs.Layouts.Decorated.{trails_then, body_then}
use Rattle.yf_laws.proofs.Derived.BlockTexts.{style_written, digit_written, sign_written, line_written}

pub header_bytes_are : (style : ScalarStyle) (indent : ℕ) (text : List ℕ) (r : List ℕ)
    → header_text style indent text ++ r ≡ style_bytes (is_folded style) ++ (digit_bytes (digit_of indent text) indent ++ (sign_bytes (chomp_of (final_feeds text)) ++ r))
header_bytes_are style indent text r =
    append_assoc (style_sign style) (digit_text indent text ++ chomping_sign (final_feeds text)) r
    ∙ (ap (λ z. style_sign style ++ z) (append_assoc (digit_text indent text) (chomping_sign (final_feeds text)) r)
    ∙ (ap (λ z. z ++ (digit_text indent text ++ (chomping_sign (final_feeds text) ++ r))) (sym (style_written style))
    ∙ (ap (λ z. style_bytes (is_folded style) ++ (z ++ (chomping_sign (final_feeds text) ++ r))) (sym (digit_written (begins_with_space text) indent))
    ∙ ap (λ z. style_bytes (is_folded style) ++ (digit_bytes (digit_of indent text) indent ++ (z ++ r))) (sym (sign_written (final_feeds text))))))

tail_are : (column n : ℕ) (r : List ℕ) → body_then (map (line_at column) (replicate n [])) r ≡ feeds n ++ r
tail_are column zero r = refl
tail_are column (suc n) r = ap (λ z. 10 ∷ z) (tail_are column n r)

pub lines_are : (column : ℕ) (ls : List (List ℕ)) (n : ℕ) (r : List ℕ) → body_then (map (line_at column) (ls ++ replicate n [])) r ≡ scalar_lines column ls (feeds n ++ r)
lines_are column [] n r = tail_are column n r
lines_are column (x ∷ ls) n r =
    ap (λ z. line_at column x ++ (10 ∷ z)) (lines_are column ls n r) ∙ ap (λ z. z ++ (10 ∷ scalar_lines column ls (feeds n ++ r))) (sym (line_written column x))

-- the comment that trails the header
abbrev pub trail_of : List (List ℕ) → Option (List ℕ)
trail_of [] = None
trail_of (x ∷ xs) = Some x

pub trail_is : (xs : List (List ℕ)) (r : List ℕ) → AreTrails xs → trails_then xs (10 ∷ r) ≡ trail_then (trail_of xs) r
trail_is [] r a = refl
trail_is (x ∷ []) r a = refl
trail_is (x ∷ y ∷ zs) r a = absurd a

pub trail_fits : (xs : List (List ℕ)) → AreTrails xs → IsTrail (trail_of xs)
trail_fits [] a = tt
trail_fits (x ∷ []) a = a
trail_fits (x ∷ y ∷ zs) a = absurd a

pub trail_comments : (xs : List (List ℕ)) → AreTrails xs → trail_texts (trail_of xs) ≡ xs
trail_comments [] a = refl
trail_comments (x ∷ []) a = refl
trail_comments (x ∷ y ∷ zs) a = absurd a
