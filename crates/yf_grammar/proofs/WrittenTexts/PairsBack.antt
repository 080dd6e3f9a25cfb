-- Keys, and the pairs of a flow mapping on one line, are derived at each offset.
use Rattle.std.proofs.Common.{◌≡◌, ℕ, suc, max, ◌+◌, ◌≤◌, ℤ, pos, Bool, true, false, List, [], ◌∷◌, ◌++◌, Some, None, length, sym, ap, ◌∙◌, subst, arith, append_assoc}
use Rattle.std.proofs.lemmas.List.{length-append}
use Rattle.std.specs.Str.{IsUtf8, chars}
use Rattle.yf_chars.specs.declared.context.Ctx.{Ctx}
use Rattle.yf_chars.specs.declared.context.Ctx.TheVariants.{FlowKey}
use Rattle.yf_chars.proofs.SpelledLemmas.{IsAt}
use Rattle.yf_lines.specs.LineText.{IsLineText, Follows, is_after_name, is_after_text}
use Rattle.yf_lines.proofs.RestLemmas.{Rest, rest_is_at, rest_text, slice_back, line_append}
use Rattle.yf_comments.proofs.SpaceLemmas.{space_separates, space_in_line}
use Rattle.yf_grammar.specs.Productions.Grammar.{Derives, Entry, ValueOf, KeyOf, characters_between, KEY_LIMIT}
use Rattle.yf_grammar.specs.Productions.Grammar.MaySeparate.{unseparated, separated}
use Rattle.yf_grammar.specs.Productions.Grammar.MaySeparateInLine.{unseparated_in_line, separated_in_line}
use Rattle.yf_grammar.specs.Productions.Grammar.Derives.{flow_node, a_pair_entry, an_implicit_entry, a_keyed_pair, key_alone, key_and_value, a_value, a_key}
use Rattle.yf_grammar.specs.Productions.Meaning.{Meaning, ◌⊕◌, collection, entering, empty_node}
use Rattle.yf_grammar.specs.Productions.OneLineTexts.{Back, EntryBack}
use Rattle.yf_grammar.proofs.WrittenTexts.LeafBack.{noting_nothing, any_follow, space_follows, space_line}
use Rattle.yf_grammar.proofs.WrittenTexts.FlowBack.{colon_follows, value_made}
use Rattle.yf_grammar.proofs.FlowReader.ParserLemmas.{after_nothing}
use Rattle.yf_lines.proofs.VisibleLines.{visible_line, visible_at}

-- the characters of a text in another one
pub characters_written : {t : List ℕ} (w r : List ℕ) {q : ℕ} → IsAt t q (w ++ r) → characters_between t q (q + length w) ≡ length (chars w)
unfolding characters_between
characters_written w r s = ap (λ x. length (chars x)) (slice_back w r s)

-- implicit keys, with a limit that counts the space before the colon
pub key_back : {t : List ℕ} {json : Bool} {c : Ctx} {w : List ℕ} {height : ℕ} {mean : ℕ → Meaning} (q : ℕ) (r : List ℕ) → IsUtf8 t → Back json true c w height mean
    → length (chars w) ≤ KEY_LIMIT → Follows is_after_text r → Rest t q (w ++ r) → Derives t height (KeyOf json c) q (q + length w) (mean q)
key_back {t} {w = w} q r u b l f s =
    let short : characters_between t q (q + length w) ≤ 1024 = subst (λ k. k ≤ 1024) (sym (characters_written w r (rest_is_at s))) l in
    a_key (b.made (pos 0) q r u f s) unseparated_in_line short

pub key_apart_back : {t : List ℕ} {json colon : Bool} {c : Ctx} {w : List ℕ} {height : ℕ} {mean : ℕ → Meaning} (q : ℕ) (r : List ℕ) → IsUtf8 t → Back json colon c w height mean
    → length (chars (w ++ 32 ∷ [])) ≤ KEY_LIMIT → Rest t q (w ++ (32 ∷ r)) → Derives t height (KeyOf json c) q (q + length w + 1) (mean q)
key_apart_back {t} {colon = colon} {w = w} q r u b l s =
    let at = rest_text w u b.line s in
    let space = visible_at 32 u (omega arith) (omega arith) at.rest in
    let long : q + length (w ++ 32 ∷ []) ≡ q + length w + 1 = omega (arith, length-append w (32 ∷ [])) in
    let whole : Rest t q ((w ++ 32 ∷ []) ++ r) = subst (λ v. Rest t q v) (sym (append_assoc w (32 ∷ []) r)) s in
    let count : characters_between t q (q + length w + 1) ≡ length (chars (w ++ 32 ∷ [])) =
    ap (λ j. characters_between t q j) (sym long) ∙ characters_written (w ++ 32 ∷ []) r (rest_is_at whole) in
    let short : characters_between t q (q + length w + 1) ≤ 1024 = subst (λ k. k ≤ 1024) (sym count) l in
    a_key (b.made (pos 0) q (32 ∷ r) u (any_follow colon space_follows) s) (separated_in_line (space_in_line (q + length w) space.0)) short

-- a key, a colon and a value
colon_line : {v : List ℕ} → IsLineText v → IsLineText (58 ∷ 32 ∷ v)
colon_line a = visible_line 58 (omega arith) (omega arith) (space_line a)

colon_length : (q : ℕ) (w v : List ℕ) → q + length w + 2 + length v ≡ q + length (w ++ (58 ∷ 32 ∷ v))
colon_length q w v = omega (arith, length-append w (58 ∷ 32 ∷ v))

pub pair_back : {json like colon : Bool} {c : Ctx} {w v : List ℕ} {height least : ℕ} {key value : ℕ → Meaning} → Back json true c w height key → Back like colon c v least value
    → EntryBack false c (w ++ (58 ∷ 32 ∷ v)) (max height least) (λ q. entering q (Some (q + length w)) (key q) ⊕ value (q + length w + 2))
pair_back {json} {like} {colon} {c} {w} {v} {height} {least} {key} {value} a b = record { line = line_append a.line (colon_line b.line); made = made } where
  made : {t : List ℕ} (n : ℤ) (q : ℕ) (r : List ℕ) → IsUtf8 t → Follows is_after_name r → Rest t q ((w ++ (58 ∷ 32 ∷ v)) ++ r)
      → Derives t (max height least) (Entry false n c) q (q + length (w ++ (58 ∷ 32 ∷ v))) (entering q (Some (q + length w)) (key q) ⊕ value (q + length w + 2))
  made {t} n q r u f s =
      let s' : Rest t q (w ++ (58 ∷ 32 ∷ (v ++ r))) = subst (λ z. Rest t q z) (append_assoc w (58 ∷ 32 ∷ v) r) s in
      let first = a.made n q (58 ∷ 32 ∷ (v ++ r)) u colon_follows s' in
      let at = rest_text w u a.line s' in
      let second = value_made {json = json} n (q + length w) r u b f at.rest in
      let whole : Derives t (max height least) (Entry false n c) q (q + length w + 2 + length v) (entering q (Some (q + length w)) (key q) ⊕ value (q + length w + 2)) =
      subst (λ x. Derives t (max height least) (Entry false n c) q (q + length w + 2 + length v) (x ⊕ value (q + length w + 2))) (noting_nothing (entering q (Some (q + length w)) (key q)))
      (an_implicit_entry (key_and_value first unseparated second)) in
      subst (λ j. Derives t (max height least) (Entry false n c) q j (entering q (Some (q + length w)) (key q) ⊕ value (q + length w + 2))) (colon_length q w v) whole

-- likewise with a space before the colon
pub pair_apart_back : {json close like colon : Bool} {c : Ctx} {w v : List ℕ} {height least : ℕ} {key value : ℕ → Meaning} → Back json close c w height key
    → Back like colon c v least value
    → EntryBack false c (w ++ (32 ∷ 58 ∷ 32 ∷ v)) (max height least) (λ q. entering q (Some (q + length w + 1)) (key q) ⊕ value (q + length w + 1 + 2))
pair_apart_back {json} {close} {like} {colon} {c} {w} {v} {height} {least} {key} {value} a b = record { line = line_append a.line (space_line (colon_line b.line)); made = made } where
  made : {t : List ℕ} (n : ℤ) (q : ℕ) (r : List ℕ) → IsUtf8 t → Follows is_after_name r → Rest t q ((w ++ (32 ∷ 58 ∷ 32 ∷ v)) ++ r)
      → Derives t (max height least) (Entry false n c) q (q + length (w ++ (32 ∷ 58 ∷ 32 ∷ v))) (entering q (Some (q + length w + 1)) (key q) ⊕ value (q + length w + 1 + 2))
  made {t} n q r u f s =
      let s' : Rest t q (w ++ (32 ∷ 58 ∷ 32 ∷ (v ++ r))) = subst (λ z. Rest t q z) (append_assoc w (32 ∷ 58 ∷ 32 ∷ v) r) s in
      let first = a.made n q (32 ∷ 58 ∷ 32 ∷ (v ++ r)) u (any_follow close space_follows) s' in
      let at = rest_text w u a.line s' in
      let space = visible_at 32 u (omega arith) (omega arith) at.rest in
      let second = value_made {json = json} n (q + length w + 1) r u b f space.1 in
      let end : q + length w + 1 + 2 + length v ≡ q + length (w ++ (32 ∷ 58 ∷ 32 ∷ v)) = omega (arith, length-append w (32 ∷ 58 ∷ 32 ∷ v)) in
      let whole : Derives t (max height least) (Entry false n c) q (q + length w + 1 + 2 + length v) (entering q (Some (q + length w + 1)) (key q) ⊕ value (q + length w + 1 + 2)) =
      subst (λ x. Derives t (max height least) (Entry false n c) q (q + length w + 1 + 2 + length v) (x ⊕ value (q + length w + 1 + 2)))
      (noting_nothing (entering q (Some (q + length w + 1)) (key q)))
      (an_implicit_entry (key_and_value first (separated (space_separates n c (q + length w) space.0)) second)) in
      subst (λ j. Derives t (max height least) (Entry false n c) q j (entering q (Some (q + length w + 1)) (key q) ⊕ value (q + length w + 1 + 2))) end whole

-- a value that is adjacent to a key like those of JSON
pub adjacent_back : {like colon : Bool} {c : Ctx} {w v : List ℕ} {height least : ℕ} {key value : ℕ → Meaning} → Back true true c w height key → Back like colon c v least value
    → EntryBack false c (w ++ (58 ∷ v)) (max height least) (λ q. entering q (Some (q + length w)) (key q) ⊕ value (q + length w + 1))
adjacent_back {like} {colon} {c} {w} {v} {height} {least} {key} {value} a b = record { line = line_append a.line (visible_line 58 (omega arith) (omega arith) b.line); made = made } where
  made : {t : List ℕ} (n : ℤ) (q : ℕ) (r : List ℕ) → IsUtf8 t → Follows is_after_name r → Rest t q ((w ++ (58 ∷ v)) ++ r)
      → Derives t (max height least) (Entry false n c) q (q + length (w ++ (58 ∷ v))) (entering q (Some (q + length w)) (key q) ⊕ value (q + length w + 1))
  made {t} n q r u f s =
      let s' : Rest t q (w ++ (58 ∷ (v ++ r))) = subst (λ z. Rest t q z) (append_assoc w (58 ∷ v) r) s in
      let first = a.made n q (58 ∷ (v ++ r)) u colon_follows s' in
      let at = rest_text w u a.line s' in
      let sign = visible_at 58 u (omega arith) (omega arith) at.rest in
      let node = b.made n (q + length w + 1) r u (any_follow colon f) sign.1 in
      let second : Derives t least (ValueOf true n c) (q + length w) (q + length w + 1 + length v) (value (q + length w + 1)) =
      subst (λ x. Derives t least (ValueOf true n c) (q + length w) (q + length w + 1 + length v) x) (after_nothing (value (q + length w + 1))) (a_value [] sign.0 tt unseparated (flow_node node)) in
      let end : q + length w + 1 + length v ≡ q + length (w ++ (58 ∷ v)) = omega (arith, length-append w (58 ∷ v)) in
      let whole : Derives t (max height least) (Entry false n c) q (q + length w + 1 + length v) (entering q (Some (q + length w)) (key q) ⊕ value (q + length w + 1)) =
      subst (λ x. Derives t (max height least) (Entry false n c) q (q + length w + 1 + length v) (x ⊕ value (q + length w + 1))) (noting_nothing (entering q (Some (q + length w)) (key q)))
      (an_implicit_entry (key_and_value first unseparated second)) in
      subst (λ j. Derives t (max height least) (Entry false n c) q j (entering q (Some (q + length w)) (key q) ⊕ value (q + length w + 1))) end whole

-- a key without a value
pub key_alone_back : {json colon : Bool} {c : Ctx} {w : List ℕ} {height : ℕ} {key : ℕ → Meaning} → Back json colon c w height key
    → EntryBack false c w height (λ q. entering q None (key q) ⊕ empty_node (key q).finish)
key_alone_back {colon = colon} b = record { line = b.line; made = λ n q r u f s. an_implicit_entry (key_alone (b.made n q r u (any_follow colon f) s)) }

-- a single pair in a sequence
pub single_pair_back : {json like colon : Bool} {c : Ctx} {w v : List ℕ} {height least : ℕ} {key value : ℕ → Meaning} → Back json true FlowKey w height key
    → length (chars w) ≤ KEY_LIMIT → Back like colon c v least value
    → EntryBack true c (w ++ (58 ∷ 32 ∷ v)) (suc (max height least)) (λ q. entering q None (collection false true q (value (q + length w + 2)).finish
    (entering q (Some (q + length w)) (key q) ⊕ value (q + length w + 2))))
unfolding ◌⊕◌
single_pair_back {json} {like} {colon} {c} {w} {v} {height} {least} {key} {value} a l b = record { line = line_append a.line (colon_line b.line); made = made } where
  made : {t : List ℕ} (n : ℤ) (q : ℕ) (r : List ℕ) → IsUtf8 t → Follows is_after_name r → Rest t q ((w ++ (58 ∷ 32 ∷ v)) ++ r)
      → Derives t (suc (max height least)) (Entry true n c) q (q + length (w ++ (58 ∷ 32 ∷ v))) (entering q None (collection false true q (value (q + length w + 2)).finish
      (entering q (Some (q + length w)) (key q) ⊕ value (q + length w + 2))))
  made {t} n q r u f s =
      let s' : Rest t q (w ++ (58 ∷ 32 ∷ (v ++ r))) = subst (λ z. Rest t q z) (append_assoc w (58 ∷ 32 ∷ v) r) s in
      let first = key_back q (58 ∷ 32 ∷ (v ++ r)) u a l colon_follows s' in
      let at = rest_text w u a.line s' in
      let second = value_made {json = json} n (q + length w) r u b f at.rest in
      subst (λ j. Derives t (suc (max height least)) (Entry true n c) q j (entering q None (collection false true q (value (q + length w + 2)).finish
      (entering q (Some (q + length w)) (key q) ⊕ value (q + length w + 2))))) (colon_length q w v) (a_pair_entry (a_keyed_pair first second))
