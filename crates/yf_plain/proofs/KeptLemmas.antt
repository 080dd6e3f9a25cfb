-- A plain scalar that stays plain is a plain scalar on one line, by its characters, in each context of its kind.
use Rattle.std.proofs.Common.{◌≡◌, ◌≢◌, ℕ, ◌+◌, ◌-◌, ◌<◌, ℤ, true, false, ◌&&◌, not, List, [], ◌∷◌, ◌++◌, length, get_or, refl, sym, ap, ◌∙◌, subst, inl, inr, ◌⊎◌, ⊎_elim, arith, append_assoc, encode_utf8_all, eqb}
use Rattle.std.proofs.Math.Bool.{and-false, and-true, or-false}
use Rattle.std.proofs.Math.Seq.{get_or-append_seam}
use Rattle.std.proofs.lemmas.Bool.{cases_eq, cases_Bool, true≢false, and_parts, and_from, or_cases, or_parts, or_left, or_right, eq-eqb, ne_eqb, not-true}
use Rattle.std.proofs.lemmas.List.{length-append}
use Rattle.std.proofs.lemmas.List.Folds.{list_any-append}
use Rattle.std.proofs.lemmas.Str.{encode_ascii, encodes-append}
use Rattle.std.specs.List.{list_any}
use Rattle.std.specs.Str.{IsUtf8}
use lib.Utf8.{encode, encodes}
use Rattle.std.proofs.lemmas.Bool.Decides.{nat_tests}
use Rattle.yf_chars.specs.declared.context.Ctx.{Ctx}
use Rattle.yf_chars.specs.declared.context.Ctx.TheVariants.{BlockOut, BlockIn, FlowOut, FlowIn, BlockKey, FlowKey}
use Rattle.yf_chars.specs.Text.{code, next, before, first_or_none, last_or, CharAt}
use Rattle.yf_chars.specs.Class.{is_ns_char, is_white, is_plain_safe, is_indicator}
use Rattle.yf_chars.specs.Chain.{Chain, Many}
use Rattle.yf_chars.specs.Chain.Chain.{done, step}
use Rattle.yf_chars.specs.Chain.One.{one}
use Rattle.yf_chars.proofs.ChainLemmas.{chain_append}
use Rattle.yf_chars.proofs.TextLemmas.{reads_real, next_ascii}
use Rattle.yf_lines.specs.Basic.{Empty, FoldedBreak, FlowFolded, is_block}
use Rattle.yf_lines.specs.Basic.Empty.{prefixed, shorter}
use Rattle.yf_lines.specs.Basic.FoldedBreak.{trimmed, as_space}
use Rattle.yf_lines.specs.Basic.FlowFolded.{at_break, past_whites}
use Rattle.yf_lines.specs.Steady.{is_steady, has_line_feed, ends_with_colon, is_only, is_marker_of}
use Rattle.yf_lines.proofs.BasicLemmas.{white_below}
use Rattle.yf_lines.proofs.FoldLemmas.{fold_not_item}
use Rattle.yf_plain.specs.Plain.{is_plain_first, is_plain_char, is_sign, PlainItem, PlainLine, PlainNext, PlainText}
use Rattle.yf_plain.specs.Plain.PlainItem.{set_off}
use Rattle.yf_plain.specs.Plain.PlainLine.{one_line}
use Rattle.yf_plain.specs.Plain.PlainText.{as_key, as_lines}
use Rattle.yf_plain.specs.Kept.{starts_plain, goes_on_plain, is_plain_after, is_plain_line, IsPlain, is_inside, StaysPlain}
use Rattle.yf_plain.proofs.PlainLemmas.{plain_is_ns, first_is_ns, ns_below, ns_not_white, safe_is_ns}
use Rattle.yf_plain.proofs.LineLemmas.{PlainStep, stay, move, items_stay, nexts_steps, folds_to, fold_before, content_no_break}
use Rattle.yf_chars.proofs.CharFacts.{space_white, colon_ns, hash_ns}

-- the tests at an offset are the tests of its characters
pub char_is : (t : List ℕ) (x : Ctx) (i : ℕ) → is_plain_char t x i ≡ goes_on_plain x (before t i) (code t i) (code t (i + 1))
unfolding is_plain_char goes_on_plain
char_is t x i = refl

pub first_is : (t : List ℕ) (x : Ctx) (i : ℕ) → is_plain_first t x i ≡ starts_plain x (code t i) (code t (i + 1))
unfolding is_plain_first starts_plain
first_is t x i = refl

-- a character by its kind
goes_colon : (x : Ctx) (b d : ℕ) → goes_on_plain x b 58 d ≡ is_plain_safe d x
unfolding goes_on_plain
goes_colon x b d = rw (and-false (is_plain_safe 58 x)) refl

goes_hash : (x : Ctx) (b d : ℕ) → goes_on_plain x b 35 d ≡ is_ns_char b
unfolding goes_on_plain
goes_hash x b d = rw (and-false (is_plain_safe 35 x), or-false (is_ns_char b)) refl

goes_other : (x : Ctx) (b c d : ℕ) → c ≢ 58 → c ≢ 35 → goes_on_plain x b c d ≡ is_plain_safe c x
unfolding goes_on_plain
goes_other x b c d n m =
    rw (ne_eqb c 58 n, ne_eqb c 35 m, and-true (is_plain_safe c x), or-false (is_plain_safe c x), or-false (is_plain_safe c x)) refl

-- a character in another context and between other characters
pub goes_moves : (x y : Ctx) (b b' c d d' : ℕ) → ((e : ℕ) → is_plain_safe e x ≡ true → is_plain_safe e y ≡ true)
    → (c ≡ 35 → is_ns_char b ≡ true → is_ns_char b' ≡ true) → (c ≡ 58 → is_plain_safe d x ≡ true → is_plain_safe d' y ≡ true)
    → goes_on_plain x b c d ≡ true → goes_on_plain y b' c d' ≡ true
goes_moves x y b b' c d d' safe hash colon e =
    ⊎_elim (λ (q : c ≡ 58).
    let old : is_plain_safe d x ≡ true = sym (ap (λ w. goes_on_plain x b w d) q ∙ goes_colon x b d) ∙ e in
    ap (λ w. goes_on_plain y b' w d') q ∙ goes_colon y b' d' ∙ colon q old)
    (λ (n : c ≢ 58).
    ⊎_elim (λ (q : c ≡ 35).
    let old : is_ns_char b ≡ true = sym (ap (λ w. goes_on_plain x b w d) q ∙ goes_hash x b d) ∙ e in
    ap (λ w. goes_on_plain y b' w d') q ∙ goes_hash y b' d' ∙ hash q old)
    (λ (m : c ≢ 35).
    let old : is_plain_safe c x ≡ true = sym (goes_other x b c d n m) ∙ e in
    goes_other y b' c d' n m ∙ safe c old)
    (cases_eq c 35)) (cases_eq c 58)

pub starts_moves : (x y : Ctx) (c d d' : ℕ) → (is_sign c ≡ true → is_plain_safe d x ≡ true → is_plain_safe d' y ≡ true) → starts_plain x c d ≡ true → starts_plain y c d' ≡ true
unfolding starts_plain
starts_moves x y c d d' sign e =
    ⊎_elim (λ (q : (is_ns_char c && not (is_indicator c)) ≡ true). or_left _ (is_sign c && is_plain_safe d' y) q)
    (λ (q : (is_sign c && is_plain_safe d x) ≡ true).
    let parts = and_parts (is_sign c) (is_plain_safe d x) q in
    or_right (is_ns_char c && not (is_indicator c)) _ (and_from (is_sign c) (is_plain_safe d' y) parts.0 (sign parts.0 parts.1)))
    (or_cases (is_ns_char c && not (is_indicator c)) (is_sign c && is_plain_safe d x) e)

pub goes_is_ns : (x : Ctx) (b c d : ℕ) → goes_on_plain x b c d ≡ true → is_ns_char c ≡ true
goes_is_ns x b c d e =
    ⊎_elim (λ (q : c ≡ 58). ap is_ns_char q ∙ colon_ns)
    (λ (n : c ≢ 58). ⊎_elim (λ (q : c ≡ 35). ap is_ns_char q ∙ hash_ns) (λ (m : c ≢ 35). safe_is_ns c x (sym (goes_other x b c d n m) ∙ e)) (cases_eq c 35))
    (cases_eq c 58)

-- a character that is safe in a flow collection is safe everywhere
ns_is_safe : (e : ℕ) (y : Ctx) → is_block y ≡ false → is_inside y ≡ false → is_ns_char e ≡ true → is_plain_safe e y ≡ true
unfolding is_plain_safe
ns_is_safe e BlockOut b i n = absurd (true≢false b)
ns_is_safe e BlockIn b i n = absurd (true≢false b)
ns_is_safe e FlowOut b i n = n
ns_is_safe e FlowIn b i n = absurd (true≢false i)
ns_is_safe e BlockKey b i n = n
ns_is_safe e FlowKey b i n = absurd (true≢false i)

inside_safe : (e : ℕ) (x y : Ctx) → is_inside x ≡ true → is_inside y ≡ true → is_plain_safe e x ≡ true → is_plain_safe e y ≡ true
unfolding is_plain_safe
inside_safe e BlockOut y i j s = absurd (true≢false (sym i))
inside_safe e BlockIn y i j s = absurd (true≢false (sym i))
inside_safe e FlowOut y i j s = absurd (true≢false (sym i))
inside_safe e BlockKey y i j s = absurd (true≢false (sym i))
inside_safe e FlowIn BlockOut i j s = absurd (true≢false (sym j))
inside_safe e FlowIn BlockIn i j s = absurd (true≢false (sym j))
inside_safe e FlowIn FlowOut i j s = absurd (true≢false (sym j))
inside_safe e FlowIn FlowIn i j s = s
inside_safe e FlowIn BlockKey i j s = absurd (true≢false (sym j))
inside_safe e FlowIn FlowKey i j s = s
inside_safe e FlowKey BlockOut i j s = absurd (true≢false (sym j))
inside_safe e FlowKey BlockIn i j s = absurd (true≢false (sym j))
inside_safe e FlowKey FlowOut i j s = absurd (true≢false (sym j))
inside_safe e FlowKey FlowIn i j s = s
inside_safe e FlowKey BlockKey i j s = absurd (true≢false (sym j))
inside_safe e FlowKey FlowKey i j s = s

pub safe_moves : (x y : Ctx) → StaysPlain x y → (e : ℕ) → is_plain_safe e x ≡ true → is_plain_safe e y ≡ true
safe_moves x y k e s =
    ⊎_elim (λ (i : is_inside y ≡ true). inside_safe e x y (k.inside i) i s)
    (λ (n : is_inside y ≡ false). ns_is_safe e y k.flow n (safe_is_ns e x s)) (cases_Bool (is_inside y))

-- no line feed among the characters
abbrev NoFeed : List ℕ → Type 0
NoFeed [] = Unit {0}
NoFeed (c ∷ cs) = (c ≢ 10) × NoFeed cs

no_feed_append : (x y : List ℕ) → NoFeed (x ++ y) → NoFeed x × NoFeed y
no_feed_append [] y f = (tt, f)
no_feed_append (c ∷ x) y f = let more = no_feed_append x y f.1 in ((f.0, more.0), more.1)

last_append : (b c : ℕ) (x y : List ℕ) → last_or b (x ++ (c ∷ y)) ≡ last_or c y
last_append b c [] y = refl
last_append b c (d ∷ x) y = last_append d c x y

-- a fold means a space, or begins with a line feed
fold_kind : {t : List ℕ} {n : ℤ} {i h : ℕ} {x : List ℕ} → FlowFolded t n i h x → (x ≡ 32 ∷ []) ⊎ ((y : List ℕ) × (x ≡ 10 ∷ y))
fold_kind {t} {n} f = go f where
  empty : {i h : ℕ} {x : List ℕ} (z : List ℕ) → Empty t n FlowIn i h x → (y : List ℕ) × (x ++ z ≡ 10 ∷ y)
  empty z (prefixed p b) = (z, refl)
  empty z (shorter p b) = (z, refl)

  fold : {i h : ℕ} {x : List ℕ} → FoldedBreak t n FlowIn i h x → (x ≡ 32 ∷ []) ⊎ ((y : List ℕ) × (x ≡ 10 ∷ y))
  fold (trimmed {y = y} b e c) = inr (empty y e)
  fold (as_space b) = inl refl

  go : {i h : ℕ} {x : List ℕ} → FlowFolded t n i h x → (x ≡ 32 ∷ []) ⊎ ((y : List ℕ) × (x ≡ 10 ∷ y))
  go (at_break f p) = fold f
  go (past_whites s f p) = fold f

-- the character after a character of content in the text follows it in the scalar too, unless the scalar ends
goes_on : {t : List ℕ} {n : ℤ} {c : Ctx} {k j : ℕ} {y : List ℕ} → is_ns_char (code t k) ≡ true → Chain (PlainStep t n c) k j y → (y ≡ []) ⊎ (first_or_none y ≡ code t k)
goes_on e done = inl refl
goes_on {t} {n} {c} {k} e (step {y = y} s d) = inr (go e s y) where
  item : {j : ℕ} {x : List ℕ} → is_ns_char (code t k) ≡ true → PlainItem t c k j x → (y : List ℕ) → first_or_none (x ++ y) ≡ code t k
  item e (set_off done f) y = refl
  item e (set_off (step (one w) m) f) y = absurd (true≢false (sym w ∙ ns_not_white (code t k) e))

  go : {j : ℕ} {x : List ℕ} → is_ns_char (code t k) ≡ true → PlainStep t n c k j x → (y : List ℕ) → first_or_none (x ++ y) ≡ code t k
  go e (stay s) y = item e s y
  go e (move {h = h} f g) y = absurd (fold_not_item done (content_no_break e) (ns_not_white (code t k) e) (folds_to f (plain_is_ns t c h g)))

-- white space and the characters after it
white_then : (y : Ctx) (b c : ℕ) (z : List ℕ) → is_white c ≡ true → is_plain_after y c z ≡ true → is_plain_after y b (c ∷ z) ≡ true
unfolding is_plain_after
white_then y b c z e f = and_from _ _ (or_left (is_white c) (goes_on_plain y b c (first_or_none z)) e) f

char_then : (y : Ctx) (b c : ℕ) (z : List ℕ) → goes_on_plain y b c (first_or_none z) ≡ true → is_plain_after y c z ≡ true → is_plain_after y b (c ∷ z) ≡ true
unfolding is_plain_after
char_then y b c z e f = and_from _ _ (or_right (is_white c) (goes_on_plain y b c (first_or_none z)) e) f

end_then : (y : Ctx) (b : ℕ) → is_ns_char b ≡ true → is_plain_after y b [] ≡ true
unfolding is_plain_after
end_then y b e = e

whites_then : {t : List ℕ} {i h : ℕ} {w : List ℕ} (y : Ctx) (z : List ℕ) → IsUtf8 t → Many t is_white i h w → (b : ℕ) → before t i ≡ b
    → ((b' : ℕ) → before t h ≡ b' → is_plain_after y b' z ≡ true) → is_plain_after y b (w ++ z) ≡ true
whites_then y z u done b e f = f b e
whites_then {t} y z u (step (one {i = i} w) m) b e f =
    let r : CharAt t i (code t i) (next t i) = reads_real t i u (let low = white_below (code t i) w in omega arith) in
    white_then y b (code t i) _ w (whites_then y z u m (code t i) r.back f)

-- the characters of a scalar, without the text around them
record Moves (x y : Ctx) : Type 0 where
  pub safe : (e : ℕ) → is_plain_safe e x ≡ true → is_plain_safe e y ≡ true

char_kept : {t : List ℕ} {n : ℤ} {c : Ctx} {j : ℕ} {z : List ℕ} (y : Ctx) (h : ℕ) → IsUtf8 t → Moves c y → is_plain_char t c h ≡ true
    → Chain (PlainStep t n c) (next t h) j z → is_plain_after y (code t h) z ≡ true → last_or (code t h) z ≢ 58
    → (b : ℕ) → (code t h ≡ 35 → is_ns_char (before t h) ≡ true → is_ns_char b ≡ true) → is_plain_after y b (code t h ∷ z) ≡ true
char_kept {t} {c = c} {z = z} y h u m e d rest last b hash =
    char_then y b (code t h) z (goes_moves c y (before t h) b (code t h) (code t (h + 1)) (first_or_none z) m.safe hash colon (sym (char_is t c h) ∙ e)) rest
  where
    colon : code t h ≡ 58 → is_plain_safe (code t (h + 1)) c ≡ true → is_plain_safe (first_or_none z) y ≡ true
    colon q s =
        let place : next t h ≡ h + 1 = next_ascii t h (omega arith) in
        let ns : is_ns_char (code t (next t h)) ≡ true = ap (λ k. is_ns_char (code t k)) place ∙ safe_is_ns (code t (h + 1)) c s in
        ⊎_elim (λ (f : z ≡ []). absurd (last (ap (last_or (code t h)) f ∙ q)))
        (λ (f : first_or_none z ≡ code t (next t h)). ap (λ w. is_plain_safe w y) (f ∙ ap (code t) place) ∙ m.safe (code t (h + 1)) s)
        (goes_on ns d)

after_kept : {t : List ℕ} {n : ℤ} {c : Ctx} {i j : ℕ} {x : List ℕ} (y : Ctx) → IsUtf8 t → Moves c y → Chain (PlainStep t n c) i j x
    → (b : ℕ) → before t i ≡ b → is_ns_char b ≡ true → NoFeed x → last_or b x ≢ 58 → is_plain_after y b x ≡ true
after_kept {t} y u m done b e n free last = end_then y b n
after_kept {t} {n} {c} y u m (step {y = z} (stay (set_off {h = h} {x = w} ws p)) d) b e ns free last =
    let whole : (w ++ (code t h ∷ [])) ++ z ≡ w ++ (code t h ∷ z) = append_assoc w (code t h ∷ []) z in
    let r : CharAt t h (code t h) (next t h) = reads_real t h u (ns_below (code t h) (plain_is_ns t c h p)) in
    let free' : NoFeed (w ++ (code t h ∷ z)) = subst (λ v. NoFeed v) whole free in
    let last' : last_or (code t h) z ≢ 58 = λ q. last (ap (last_or b) whole ∙ last_append b (code t h) w z ∙ q) in
    let rest = after_kept y u m d (code t h) r.back (plain_is_ns t c h p) (no_feed_append w (code t h ∷ z) free').1.1 last' in
    ap (is_plain_after y b) whole ∙ whites_then y (code t h ∷ z) u ws b e (λ b' f. char_kept y h u m p d rest last' b' (λ q s. ap is_ns_char (sym f) ∙ s))
after_kept {t} {n} {c} y u m (step {y = z} (move {h = h} {x = w} f p) d) b e ns free last =
    let whole : (w ++ (code t h ∷ [])) ++ z ≡ w ++ (code t h ∷ z) = append_assoc w (code t h ∷ []) z in
    let r : CharAt t h (code t h) (next t h) = reads_real t h u (ns_below (code t h) (plain_is_ns t c h p)) in
    let free' : NoFeed (w ++ (code t h ∷ z)) = subst (λ v. NoFeed v) whole free in
    let last' : last_or (code t h) z ≢ 58 = λ q. last (ap (last_or b) whole ∙ last_append b (code t h) w z ∙ q) in
    let rest = after_kept y u m d (code t h) r.back (plain_is_ns t c h p) (no_feed_append w (code t h ∷ z) free').1.1 last' in
    let no_hash : code t h ≡ 35 → is_ns_char (before t h) ≡ true → is_ns_char 32 ≡ true = λ q s. absurd (true≢false (sym s ∙ fold_before u (folds_to f (plain_is_ns t c h p)))) in
    ⊎_elim (λ (q : w ≡ 32 ∷ []).
    ap (is_plain_after y b) (whole ∙ ap (λ v. v ++ (code t h ∷ z)) q) ∙ white_then y b 32 (code t h ∷ z) space_white (char_kept y h u m p d rest last' 32 no_hash))
    (λ (q : (v : List ℕ) × (w ≡ 10 ∷ v)). absurd ((subst (λ v. NoFeed v) q.1 (no_feed_append w (code t h ∷ z) free').0).0 refl))
    (fold_kind f)

-- the characters of steady bytes
feed_byte : (c : ℕ) (z : List ℕ) → has_line_feed (encodes (c ∷ z)) ≡ false → (c ≢ 10) × (has_line_feed (encodes z) ≡ false)
unfolding has_line_feed
feed_byte c z e =
    let parts = or_parts (list_any (λ v. eqb v 10) (encode c)) (list_any (λ v. eqb v 10) (encodes z)) (sym (list_any-append (λ v. eqb v 10) (encode c) (encodes z)) ∙ e) in (
      λ q. let same : encode c ≡ 10 ∷ [] = ap encode q ∙ encode_ascii 10 (omega arith) in
          true≢false (sym (ap (list_any (λ v. eqb v 10)) same) ∙ parts.0),
      parts.1,
    )

free_of : (x : List ℕ) → has_line_feed (encodes x) ≡ false → NoFeed x
free_of [] e = tt
free_of (c ∷ x) e = let parts = feed_byte c x e in (parts.0, free_of x parts.1)

-- the last character
last_cut : (d c : ℕ) (x : List ℕ) → (front : List ℕ) × (c ∷ x ≡ front ++ (last_or d (c ∷ x) ∷ []))
last_cut d c [] = ([], refl)
last_cut d c (e ∷ x) = let more = last_cut c e x in (c ∷ more.0, ap (λ w. c ∷ w) more.1)

colon_end : (c : ℕ) (x : List ℕ) → last_or c x ≡ 58 → ends_with_colon (encodes (c ∷ x)) ≡ true
unfolding ends_with_colon
colon_end c x e =
    let cut = last_cut c c x in
    let whole : encodes (c ∷ x) ≡ encodes cut.0 ++ (58 ∷ []) =
    ap encodes (cut.1 ∙ ap (λ w. cut.0 ++ (w ∷ [])) e) ∙ encodes-append cut.0 (58 ∷ []) ∙ ap (λ w. encodes cut.0 ++ (w ++ [])) (encode_ascii 58 (omega arith)) in
    let long : length (encodes cut.0 ++ (58 ∷ [])) ≡ length (encodes cut.0) + 1 = length-append (encodes cut.0) (58 ∷ []) in
    let place : length (encodes cut.0 ++ (58 ∷ [])) - 1 ≡ length (encodes cut.0) = omega arith in
    eq-eqb _ 58 (ap (λ w. get_or w (length w - 1) 0) whole ∙ ap (λ k. get_or (encodes cut.0 ++ (58 ∷ [])) k 0) place ∙ get_or-append_seam (encodes cut.0) 58 [] 0)

only_one : (c d : ℕ) → d < 128 → c ≡ d → is_only d (encodes (c ∷ [])) ≡ true
unfolding is_only
only_one c d l e =
    let same : encodes (c ∷ []) ≡ d ∷ [] = ap (λ w. w ++ []) (ap encode e ∙ encode_ascii d l) in
    ap (λ w. (eqb (length w) 1) && (eqb (get_or w 0 0) d)) same ∙ eq-eqb d d refl

-- the parts of the test
pub record Steady (w : List ℕ) : Type 0 where
  pub feed : has_line_feed w ≡ false
  pub colon : ends_with_colon w ≡ false
  pub dash : is_only 45 w ≡ false
  pub question : is_only 63 w ≡ false
  pub dashes : is_marker_of 45 w ≡ false
  pub dots : is_marker_of 46 w ≡ false

pub steady_parts : (w : List ℕ) → is_steady w ≡ true → Steady w
unfolding is_steady
steady_parts w e =
    let a = and_parts _ (not (is_marker_of 46 w)) e in
    let b = and_parts _ (not (is_marker_of 45 w)) a.0 in
    let c = and_parts _ (not (is_only 63 w)) b.0 in
    let d = and_parts _ (not (is_only 45 w)) c.0 in
    let f = and_parts (not (has_line_feed w)) (not (ends_with_colon w)) d.0 in
    record {
      feed = not-true _ f.0;
      colon = not-true _ f.1;
      dash = not-true _ d.1;
      question = not-true _ c.1;
      dashes = not-true _ b.1;
      dots = not-true _ a.1;
    }

sign_cases : (c : ℕ) → is_sign c ≡ true → (c ≡ 63) ⊎ ((c ≡ 58) ⊎ (c ≡ 45))
unfolding is_sign
sign_cases c e = grind (arith, nat_tests)

-- a plain scalar that stays plain, by its characters
line_kept : {t : List ℕ} {n : ℤ} {c : Ctx} {j : ℕ} {x : List ℕ} (y : Ctx) (i : ℕ) → IsUtf8 t → Moves c y → is_plain_first t c i ≡ true
    → Chain (PlainStep t n c) (next t i) j x → Steady (encodes (code t i ∷ x)) → is_plain_line y (code t i ∷ x) ≡ true
unfolding is_plain_line
line_kept {t} {n} {c} {x = x} y i u m e d s =
    let ns : is_ns_char (code t i) ≡ true = first_is_ns t c i e in
    let r : CharAt t i (code t i) (next t i) = reads_real t i u (ns_below (code t i) ns) in
    let last : last_or (code t i) x ≢ 58 = λ q. true≢false (sym (colon_end (code t i) x q) ∙ s.colon) in
    and_from _ _ (starts_moves c y (code t i) (code t (i + 1)) (first_or_none x) sign (sym (first_is t c i) ∙ e))
    (after_kept y u m d (code t i) r.back ns (free_of (code t i ∷ x) s.feed).1 last)
  where
    alone : (z : List ℕ) → x ≡ z → code t i ≡ 63 ⊎ (code t i ≡ 58 ⊎ code t i ≡ 45) → z ≡ [] → ⊥
    alone z f k q =
        let none : x ≡ [] = f ∙ q in
        ⊎_elim (λ (h : code t i ≡ 63). true≢false (sym (only_one (code t i) 63 (omega arith) h) ∙ ap (λ w. is_only 63 (encodes (code t i ∷ w))) (sym none) ∙ s.question))
        (λ (k : (code t i ≡ 58) ⊎ (code t i ≡ 45)).
        ⊎_elim (λ (h : code t i ≡ 58). true≢false (sym (colon_end (code t i) x (ap (last_or (code t i)) none ∙ h)) ∙ s.colon))
        (λ (h : code t i ≡ 45). true≢false (sym (only_one (code t i) 45 (omega arith) h) ∙ ap (λ w. is_only 45 (encodes (code t i ∷ w))) (sym none) ∙ s.dash)) k) k

    sign : is_sign (code t i) ≡ true → is_plain_safe (code t (i + 1)) c ≡ true → is_plain_safe (first_or_none x) y ≡ true
    sign k p =
        let kinds = sign_cases (code t i) k in
        let place : next t i ≡ i + 1 = next_ascii t i (omega (arith, kinds)) in
        let ns : is_ns_char (code t (next t i)) ≡ true = ap (λ v. is_ns_char (code t v)) place ∙ safe_is_ns (code t (i + 1)) c p in
        ⊎_elim (λ (f : x ≡ []). absurd (alone x refl kinds f))
        (λ (f : first_or_none x ≡ code t (next t i)). ap (λ w. is_plain_safe w y) (f ∙ ap (code t) place) ∙ m.safe (code t (i + 1)) p)
        (goes_on ns d)

-- a text that is a plain scalar in some context and stays plain is one on one line in each context of its kind
pub plain_kept : {t : List ℕ} {n : ℤ} {c : Ctx} {i j : ℕ} {x : List ℕ} (y : Ctx) → IsUtf8 t → PlainText t n c i j x → StaysPlain c y
    → is_steady (encode_utf8_all x) ≡ true → IsPlain y (encode_utf8_all x)
plain_kept {t} {n} {c} {i} y u p k e = go p e where
  moves : Moves c y
  moves = record { safe = safe_moves c y k }

  with_line : {h j : ℕ} {x z : List ℕ} → PlainLine t c i h x → Chain (PlainNext t n c) h j z → is_steady (encodes (x ++ z)) ≡ true → is_plain_line y (x ++ z) ≡ true
  with_line {z = z} (one_line {x = x} f d) g e = line_kept y i u moves f (chain_append (items_stay d) (nexts_steps g)) (steady_parts (encodes (code t i ∷ (x ++ z))) e)

  on_line : {j : ℕ} {x : List ℕ} → PlainLine t c i j x → is_steady (encodes x) ≡ true → is_plain_line y x ≡ true
  on_line (one_line {x = x} f d) e = line_kept {n = n} y i u moves f (items_stay d) (steady_parts (encodes (code t i ∷ x)) e)

  go : {j : ℕ} {x : List ℕ} → PlainText t n c i j x → is_steady (encodes x) ≡ true → IsPlain y (encodes x)
  go {x = x} (as_key f d) e = record { chars = x; bytes = refl; line = on_line d e; steady = e }
  go (as_lines {x = x} {y = z} f d g) e = record { chars = x ++ z; bytes = refl; line = with_line d g e; steady = e }
