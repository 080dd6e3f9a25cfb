-- Laws of texts without their ends, and of the lines of a block scalar.
use Rattle.std.proofs.Common.{◌≡◌, ◌≢◌, ℕ, zero, suc, ◌+◌, ◌-◌, ◌<◌, Bool, true, false, eqb-true, ◌==◌, List, [], ◌∷◌, ◌++◌, Option, Some, None, IfSome, Result, Ok, Err, encode_utf8, flat_map, get_or, length, map, replicate, take, drop, refl, sym, ap, ◌∙◌, subst, ⊎_elim, arith, append-nil, append_assoc, if◌then◌else◌}
use lib.Utf8.{encode}
use Rattle.std.proofs.lemmas.Bool.{cases_eq, ne_eqb}
use Rattle.std.proofs.lemmas.List.{take-append-drop}
use Rattle.std.proofs.lemmas.List.Sums.{passes_at_first}
use Rattle.std.proofs.lemmas.Str.{IsCharBoundary-after_ascii, IsUtf8-drop}
use Rattle.std.specs.declared.alloc.AllocError.{AllocError}
use Rattle.std.specs.Result.{OnOk}
use Rattle.std.specs.Str.{IsUtf8}
use Rattle.std.specs.List.{list_all, position_or_len, before_first, after_first}
use Rattle.std.specs.Str.Pattern.{CutsSuffixes, FindsCharSuffix, HasCharAt, IsTrimEndMatches}
use Rattle.yf_chars.specs.Class.{is_white}
use Rattle.yf_forms.specs.Nodes.BlockLines.{cut_at_feeds, into_first, is_feed, line_at, without_final_feeds}
use Rattle.yf_forms.specs.Nodes.Lines.{ended, trimmed}

-- a text is empty, or has a last byte
pub data Snoc : List ℕ → Type 0 where
  nothing : Snoc []
  ending_in : (bs : List ℕ) (b : ℕ) → Snoc (bs ++ b ∷ [])

snoc_after : (b : ℕ) {bs : List ℕ} → Snoc bs → Snoc (b ∷ bs)
snoc_after b nothing = ending_in [] b
snoc_after b (ending_in bs c) = ending_in (b ∷ bs) c

pub snoc : (bs : List ℕ) → Snoc bs
snoc [] = nothing
snoc (b ∷ bs) = snoc_after b (snoc bs)

-- a text without the bytes of a kind that end it
abbrev pub cut_end : (ℕ → Bool) → List ℕ → List ℕ
cut_end p [] = []
cut_end p (b ∷ bs) = if list_all p (b ∷ bs) then [] else b ∷ cut_end p bs

pub cut_feeds : (bs : List ℕ) → without_final_feeds bs ≡ cut_end is_feed bs
cut_feeds [] = refl
cut_feeds (b ∷ bs) = rw (cut_feeds bs) refl

pub cut_whites : (bs : List ℕ) → trimmed bs ≡ cut_end is_white bs
cut_whites [] = refl
cut_whites (b ∷ bs) = rw (cut_whites bs) refl

all_after : (p : ℕ → Bool) (bs : List ℕ) (b : ℕ) → p b ≡ true → list_all p (bs ++ b ∷ []) ≡ list_all p bs
all_after p [] b e = rw e refl
all_after p (c ∷ bs) b e = by_byte (p c) refl (all_after p bs b e) where
  by_byte : (q : Bool) → p c ≡ q → list_all p (bs ++ b ∷ []) ≡ list_all p bs → list_all p (c ∷ bs ++ b ∷ []) ≡ list_all p (c ∷ bs)
  by_byte true f g = rw f g
  by_byte false f g = rw f refl

none_after : (p : ℕ → Bool) (bs : List ℕ) (b : ℕ) → p b ≡ false → list_all p (bs ++ b ∷ []) ≡ false
none_after p [] b e = rw e refl
none_after p (c ∷ bs) b e = by_byte (p c) refl (none_after p bs b e) where
  by_byte : (q : Bool) → p c ≡ q → list_all p (bs ++ b ∷ []) ≡ false → list_all p (c ∷ bs ++ b ∷ []) ≡ false
  by_byte true f g = rw f g
  by_byte false f g = rw f refl

pub cut_one : (p : ℕ → Bool) (bs : List ℕ) (b : ℕ) → p b ≡ true → cut_end p (bs ++ b ∷ []) ≡ cut_end p bs
cut_one p [] b e = rw e refl
cut_one p (c ∷ bs) b e = rw (all_after p (c ∷ bs) b e, cut_one p bs b e) refl

pub cut_none : (p : ℕ → Bool) (bs : List ℕ) (b : ℕ) → p b ≡ false → cut_end p (bs ++ b ∷ []) ≡ bs ++ b ∷ []
cut_none p [] b e = rw e refl
cut_none p (c ∷ bs) b e = rw (none_after p (c ∷ bs) b e, cut_none p bs b e) refl

-- cutting off the end leaves the result unchanged
pub same_cut : (R : List ℕ → Option ℕ → Type 0) (f : List ℕ → List ℕ) → ((m : List ℕ) (n : ℕ) → R m (Some n) → f m ≡ f (take (length m - n) m))
    → (s : List ℕ) (ns : List ℕ) (r : List ℕ) → CutsSuffixes R s ns r → f s ≡ f r
same_cut R f one s [] r e = ap f (sym e)
same_cut R f one s (n ∷ ns) r (m, cuts, match, e) = same_cut R f one s ns m cuts ∙ one m n match ∙ ap f (sym e)

-- an ASCII character that ends a text
pub last_byte : (c : ℕ) (m : List ℕ) (n : ℕ) → encode_utf8 c ≡ c ∷ [] → HasCharAt c m (length m - n) (length m) → m ≡ take (length m - n) m ++ c ∷ []
last_byte c m n e h =
    let rest : drop (length m) m ≡ [] = nothing_left m in
    sym (take-append-drop (length m - n) m) ∙ ap (λ w. take (length m - n) m ++ w) (h.split ∙ ap (λ w. w ++ drop (length m) m) e ∙ ap (λ w. c ∷ w) rest)
  where
    nothing_left : (m : List ℕ) → drop (length m) m ≡ []
    nothing_left [] = refl
    nothing_left (b ∷ m) = nothing_left m

-- line feeds cut off
pub without_feeds_is : {s r : List ℕ} → IsTrimEndMatches (FindsCharSuffix 10) s r → r ≡ without_final_feeds s
unfolding encode
without_feeds_is {s} {r} ((ns, cuts), (o, found, zero_wide)) =
    sym (cut_feeds s ∙ same_cut (FindsCharSuffix 10) (cut_end is_feed) one s ns r cuts ∙ whole o found zero_wide (snoc r))
  where
    one : (m : List ℕ) (n : ℕ) → FindsCharSuffix 10 m (Some n) → cut_end is_feed m ≡ cut_end is_feed (take (length m - n) m)
    one m n (w, at, b) = ap (cut_end is_feed) (last_byte 10 m n refl at) ∙ cut_one is_feed (take (length m - n) m) 10 refl

    whole : (o : Option ℕ) {r : List ℕ} → FindsCharSuffix 10 r o → IfSome o (λ n. n ≡ 0) → Snoc r → cut_end is_feed r ≡ r
    whole (Some n) (w, at, b) z e = absurd (omega (arith, w, z))
    whole None none z nothing = refl
    whole None none z (ending_in bs b) = ⊎_elim (λ (e : b ≡ 10). absurd (none bs (ap (λ w. bs ++ w ∷ []) e))) (λ (e : b ≢ 10). cut_none is_feed bs b (ne_eqb b 10 e)) (cases_eq b 10)

-- the empty lines
pub empty_lines : (column n : ℕ) → flat_map ended (map (line_at column) (replicate n [])) ≡ replicate n 10
empty_lines column zero = refl
empty_lines column (suc n) = ap (λ w. 10 ∷ w) (empty_lines column n)

-- lines cut at the first line feed
pub cut_at_first : (bs : List ℕ) → position_or_len is_feed bs < length bs → cut_at_feeds bs ≡ before_first is_feed bs ∷ cut_at_feeds (after_first is_feed bs)
cut_at_first [] l = absurd (omega arith)
cut_at_first (b ∷ bs) l = by_byte (b == 10) refl (λ m. cut_at_first bs m) where
  by_byte : (q : Bool) → (b == 10) ≡ q
      → (position_or_len is_feed bs < length bs → cut_at_feeds bs ≡ before_first is_feed bs ∷ cut_at_feeds (after_first is_feed bs))
      → cut_at_feeds (b ∷ bs) ≡ before_first is_feed (b ∷ bs) ∷ cut_at_feeds (after_first is_feed (b ∷ bs))
  by_byte true e g = rw e refl
  by_byte false e g =
      let within = rw e at l in
      let place : position_or_len is_feed (b ∷ bs) ≡ suc (position_or_len is_feed bs) = rw e (omega arith) in
      let follows : position_or_len is_feed (b ∷ bs) + 1 ≡ suc (position_or_len is_feed bs + 1) = omega (arith, place) in
      let one : before_first is_feed (b ∷ bs) ≡ b ∷ before_first is_feed bs = ap (λ n. take n (b ∷ bs)) place in
      let rest : after_first is_feed (b ∷ bs) ≡ after_first is_feed bs = ap (λ n. drop n (b ∷ bs)) follows in
      let cut : cut_at_feeds (b ∷ bs) ≡ into_first b (cut_at_feeds bs) = rw e refl in
      cut ∙ ap (into_first b) (g (omega (arith, within)))
      ∙ sym (ap (λ w. w ∷ cut_at_feeds (after_first is_feed (b ∷ bs))) one ∙ ap (λ w. (b ∷ before_first is_feed bs) ∷ cut_at_feeds w) rest)

pub cut_nowhere : (bs : List ℕ) → position_or_len is_feed bs ≡ length bs → cut_at_feeds bs ≡ bs ∷ []
cut_nowhere [] e = refl
cut_nowhere (b ∷ bs) e = by_byte (b == 10) refl (λ f. cut_nowhere bs f) where
  by_byte : (q : Bool) → (b == 10) ≡ q → (position_or_len is_feed bs ≡ length bs → cut_at_feeds bs ≡ bs ∷ []) → cut_at_feeds (b ∷ bs) ≡ (b ∷ bs) ∷ []
  by_byte true f g = let none = rw f at e in absurd (omega (arith, none))
  by_byte false f g = let all = rw f at e in rw (f, g (omega (arith, all))) refl

-- a line printed, and the lines after it
pub one_line : {now : List ℕ} (done : List ℕ) (f : List ℕ → List ℕ) (line : List ℕ) (ls all : List (List ℕ)) (whole : List ℕ)
    → all ≡ line ∷ ls → now ≡ done ++ ended (f line) → done ++ flat_map ended (map f all) ≡ whole → now ++ flat_map ended (map f ls) ≡ whole
one_line done f line ls all whole e g h =
    ap (λ w. w ++ flat_map ended (map f ls)) g ∙ append_assoc done (ended (f line)) (flat_map ended (map f ls))
    ∙ ap (λ w. done ++ flat_map ended (map f w)) (sym e) ∙ h

pub last_line : {now : List ℕ} (done : List ℕ) (f : List ℕ → List ℕ) (line : List ℕ) (all : List (List ℕ)) (whole : List ℕ)
    → all ≡ line ∷ [] → now ≡ done ++ ended (f line) → done ++ flat_map ended (map f all) ≡ whole → now ≡ whole
last_line {now} done f line all whole e g h = sym (append-nil now) ∙ one_line done f line [] all whole e g h

pub if_last_line : (now : List ℕ) (r : Result (Unit {0}) AllocError) (done : List ℕ) (f : List ℕ → List ℕ) (line : List ℕ) (all : List (List ℕ)) (whole : List ℕ)
    → all ≡ line ∷ [] → OnOk r (now ≡ done ++ ended (f line)) → done ++ flat_map ended (map f all) ≡ whole → OnOk r (now ≡ whole)
if_last_line now (Ok x) done f line all whole e g h = last_line done f line all whole e g h
if_last_line now (Err x) done f line all whole e g h = tt

-- a text after a line feed
pub after_feed : {rest : List ℕ} (bs : List ℕ) → IsUtf8 bs → rest ≡ after_first is_feed bs → position_or_len is_feed bs < length bs → IsUtf8 rest
after_feed bs u e l =
    let at = position_or_len is_feed bs in
    let feed : get_or bs at 0 ≡ 10 = eqb-true (get_or bs at 0) 10 (passes_at_first is_feed bs 0 l) in
    subst IsUtf8 (sym e) (IsUtf8-drop bs (at + 1) u (IsCharBoundary-after_ascii bs at u l (omega (arith, feed))))
