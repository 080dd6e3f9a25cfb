-- Flow collections on one line are derived at each offset: brackets, one space after each comma and each colon.
use Rattle.std.proofs.Common.{◌≡◌, ℕ, suc, max, ◌+◌, ◌<◌, ◌≤◌, ℤ, Bool, true, false, List, [], ◌∷◌, ◌++◌, None, length, refl, ap, ◌∙◌, subst, arith, append_assoc}
use Rattle.std.proofs.lemmas.List.{length-append}
use Rattle.std.proofs.lemmas.Bool.Decides.{nat_tests}
use Rattle.std.specs.Str.{IsUtf8}
use Rattle.yf_chars.specs.declared.context.Ctx.{Ctx}
use Rattle.yf_chars.specs.declared.context.Ctx.TheVariants.{BlockOut, BlockIn, FlowOut, FlowIn, BlockKey, FlowKey}
use Rattle.yf_chars.specs.Text.{code}
use Rattle.yf_chars.specs.Class.{is_nb_char, is_ns_char, is_white, is_plain_safe, is_printable, is_between, is_break_char}
use Rattle.yf_lines.specs.Basic.{is_block}
use Rattle.yf_lines.specs.LineText.{IsLineText, Follows, is_after_name, is_after_text}
use Rattle.yf_lines.specs.LineText.Follows.{byte_follows}
use Rattle.yf_lines.proofs.RestLemmas.{Rest, rest_text, rest_ascii, line_append, line_ascii, line_nothing}
use Rattle.yf_comments.specs.Comments.{Separate}
use Rattle.yf_comments.proofs.SpaceLemmas.{space_separates}
use Rattle.yf_grammar.specs.Productions.Grammar.{Derives, JsonContent, Entries, ValueOf, MayBeColon, ValueSeparate, opening, closing, in_flow}
use Rattle.yf_grammar.specs.Productions.Grammar.MaySeparate.{unseparated, separated}
use Rattle.yf_grammar.specs.Productions.Grammar.Derives.{flow_node, an_empty_collection, a_collection, last_entry, more_entries, a_node_entry, a_value}
use Rattle.yf_grammar.specs.Productions.Meaning.{Meaning, ◌⊕◌, collection, entering}
use Rattle.yf_grammar.specs.Productions.OneLineTexts.{Back, JsonBack, EntryBack, EntriesBack}
use Rattle.yf_grammar.proofs.WrittenTexts.LeafBack.{noting_nothing, any_follow, space_line}
use Rattle.yf_chars.proofs.CharBounds.{visible_nb}
use Rattle.yf_grammar.proofs.FlowReader.ParserLemmas.{after_nothing}
use Rattle.yf_lines.proofs.VisibleLines.{visible_line, visible_at}

comma_follows : {r : List ℕ} → Follows is_after_name (44 ∷ r)
unfolding is_after_name
comma_follows = byte_follows (omega arith) refl

closing_follows : (sequence : Bool) {r : List ℕ} → Follows is_after_name (closing sequence ∷ r)
unfolding is_after_name
closing_follows true = byte_follows (omega arith) refl
closing_follows false = byte_follows (omega arith) refl

pub colon_follows : {r : List ℕ} → Follows is_after_text (58 ∷ r)
unfolding is_after_text
colon_follows = byte_follows (omega arith) refl

opening_bounds : (sequence : Bool) → (32 ≤ opening sequence) × (opening sequence < 127)
opening_bounds true = (omega arith, omega arith)
opening_bounds false = (omega arith, omega arith)

closing_bounds : (sequence : Bool) → (32 ≤ closing sequence) × (closing sequence < 127)
closing_bounds true = (omega arith, omega arith)
closing_bounds false = (omega arith, omega arith)

in_brackets_line : (sequence : Bool) {w : List ℕ} → IsLineText w → IsLineText (opening sequence ∷ (w ++ closing sequence ∷ []))
in_brackets_line sequence a =
    let o = opening_bounds sequence in
    let c = closing_bounds sequence in
    visible_line (opening sequence) o.0 o.1 (line_append a (visible_line (closing sequence) c.0 c.1 line_nothing))

-- a collection without entries
pub empty_json_back : (c : Ctx) (sequence : Bool) → is_block c ≡ false
    → JsonBack c (opening sequence ∷ closing sequence ∷ []) 1 (λ q. collection sequence true q (q + 2) (record { events = []; comments = []; escapes = []; finish = q + 1 }))
empty_json_back c sequence b = record { line = in_brackets_line sequence line_nothing; made = made } where
  made : {t : List ℕ} (n : ℤ) (q : ℕ) (r : List ℕ) → IsUtf8 t → Rest t q (opening sequence ∷ closing sequence ∷ r)
      → Derives t 1 (JsonContent n c) q (q + 2) (collection sequence true q (q + 2) (record { events = []; comments = []; escapes = []; finish = q + 1 }))
  made {t} n q r u s =
      let o = opening_bounds sequence in
      let k = closing_bounds sequence in
      let first = visible_at (opening sequence) u o.0 o.1 s in
      let last = visible_at (closing sequence) u k.0 k.1 first.1 in
      let two : q + 1 + 1 ≡ q + 2 = omega arith in
      subst (λ j. Derives t 1 (JsonContent n c) q j (collection sequence true q j (record { events = []; comments = []; escapes = []; finish = q + 1 }))) two
      (an_empty_collection sequence b first.0 unseparated last.0)

-- entries between brackets
brackets_length : (q a b : ℕ) (w : List ℕ) → q + 1 + length w + 1 ≡ q + length (a ∷ (w ++ b ∷ []))
brackets_length q a b w = omega (arith, length-append w (b ∷ []))

pub collection_json_back : (c : Ctx) (sequence : Bool) {w : List ℕ} {height : ℕ} {mean : ℕ → Meaning} → is_block c ≡ false → EntriesBack sequence (in_flow c) w height mean
    → JsonBack c (opening sequence ∷ (w ++ closing sequence ∷ [])) (suc height)
    (λ q. collection sequence true q (q + length (opening sequence ∷ (w ++ closing sequence ∷ []))) (mean (q + 1)))
collection_json_back c sequence {w} {height} {mean} b e = record { line = in_brackets_line sequence e.line; made = made } where
  made : {t : List ℕ} (n : ℤ) (q : ℕ) (r : List ℕ) → IsUtf8 t → Rest t q (opening sequence ∷ ((w ++ closing sequence ∷ []) ++ r))
      → Derives t (suc height) (JsonContent n c) q (q + length (opening sequence ∷ (w ++ closing sequence ∷ [])))
      (collection sequence true q (q + length (opening sequence ∷ (w ++ closing sequence ∷ []))) (mean (q + 1)))
  made {t} n q r u s =
      let o = opening_bounds sequence in
      let k = closing_bounds sequence in
      let first = visible_at (opening sequence) u o.0 o.1 s in
      let inner : Rest t (q + 1) (w ++ (closing sequence ∷ r)) = subst (λ v. Rest t (q + 1) v) (append_assoc w (closing sequence ∷ []) r) first.1 in
      let entries = e.made n (q + 1) (closing sequence ∷ r) u (closing_follows sequence) inner in
      let after_entries = rest_text w u e.line inner in
      let last = visible_at (closing sequence) u k.0 k.1 after_entries.rest in
      let whole : Derives t (suc height) (JsonContent n c) q (q + 1 + length w + 1) (collection sequence true q (q + 1 + length w + 1) (mean (q + 1))) =
      subst (λ x. Derives t (suc height) (JsonContent n c) q (q + 1 + length w + 1) (collection sequence true q (q + 1 + length w + 1) x)) (after_nothing (mean (q + 1)))
      (a_collection sequence b first.0 unseparated entries last.0) in
      subst (λ j. Derives t (suc height) (JsonContent n c) q j (collection sequence true q j (mean (q + 1)))) (brackets_length q (opening sequence) (closing sequence) w) whole

-- the last entry, and one before others
pub last_back : {sequence : Bool} {c : Ctx} {w : List ℕ} {height : ℕ} {mean : ℕ → Meaning} → EntryBack sequence c w height mean → EntriesBack sequence c w height mean
last_back {sequence} {c} {w} {height} {mean} b = record { line = b.line; made = made } where
  made : {t : List ℕ} (n : ℤ) (q : ℕ) (r : List ℕ) → IsUtf8 t → Follows is_after_name r → Rest t q (w ++ r) → Derives t height (Entries sequence n c) q (q + length w) (mean q)
  made {t} n q r u f s = subst (λ x. Derives t height (Entries sequence n c) q (q + length w) x) (noting_nothing (mean q)) (last_entry (b.made n q r u f s) unseparated)

pub more_back : {sequence : Bool} {c : Ctx} {w v : List ℕ} {height least : ℕ} {mean others : ℕ → Meaning} → EntryBack sequence c w height mean → EntriesBack sequence c v least others
    → EntriesBack sequence c (w ++ (44 ∷ 32 ∷ v)) (max height least) (λ q. mean q ⊕ others (q + length w + 2))
more_back {sequence} {c} {w} {v} {height} {least} {mean} {others} b e =
    record { line = line_append b.line (visible_line 44 (omega arith) (omega arith) (space_line e.line)); made = made }
  where
    made : {t : List ℕ} (n : ℤ) (q : ℕ) (r : List ℕ) → IsUtf8 t → Follows is_after_name r → Rest t q ((w ++ (44 ∷ 32 ∷ v)) ++ r)
        → Derives t (max height least) (Entries sequence n c) q (q + length (w ++ (44 ∷ 32 ∷ v))) (mean q ⊕ others (q + length w + 2))
    made {t} n q r u f s =
        let s' : Rest t q (w ++ (44 ∷ 32 ∷ (v ++ r))) = subst (λ z. Rest t q z) (append_assoc w (44 ∷ 32 ∷ v) r) s in
        let first = b.made n q (44 ∷ 32 ∷ (v ++ r)) u comma_follows s' in
        let at = rest_text w u b.line s' in
        let comma = visible_at 44 u (omega arith) (omega arith) at.rest in
        let space = visible_at 32 u (omega arith) (omega arith) comma.1 in
        let two : q + length w + 1 + 1 ≡ q + length w + 2 = omega arith in
        let rest : Rest t (q + length w + 2) (v ++ r) = subst (λ j. Rest t j (v ++ r)) two space.1 in
        let apart : Separate t n c (q + length w + 1) (q + length w + 2) [] = subst (λ j. Separate t n c (q + length w + 1) j []) two (space_separates n c (q + length w + 1) space.0) in
        let more = e.made n (q + length w + 2) r u f rest in
        let whole : Derives t (max height least) (Entries sequence n c) q (q + length w + 2 + length v) (mean q ⊕ others (q + length w + 2)) =
        subst (λ x. Derives t (max height least) (Entries sequence n c) q (q + length w + 2 + length v) (x ⊕ others (q + length w + 2))) (noting_nothing (mean q))
        (more_entries first unseparated comma.0 (separated apart) more) in
        let end : q + length w + 2 + length v ≡ q + length (w ++ (44 ∷ 32 ∷ v)) = omega (arith, length-append w (44 ∷ 32 ∷ v)) in
        subst (λ j. Derives t (max height least) (Entries sequence n c) q j (mean q ⊕ others (q + length w + 2))) end whole

-- a node in a sequence
pub item_back : {json colon : Bool} {c : Ctx} {w : List ℕ} {height : ℕ} {mean : ℕ → Meaning} → Back json colon c w height mean
    → EntryBack true c w height (λ q. entering q None (mean q))
item_back {colon = colon} b = record { line = b.line; made = λ n q r u f s. a_node_entry (flow_node (b.made n q r u (any_follow colon f) s)) }

-- a colon, a space and a value
space_unsafe : (c : Ctx) → is_plain_safe 32 c ≡ false
unfolding is_plain_safe is_ns_char is_nb_char is_printable is_between is_break_char is_white
space_unsafe BlockOut = refl
space_unsafe BlockIn = refl
space_unsafe FlowOut = refl
space_unsafe FlowIn = refl
space_unsafe BlockKey = refl
space_unsafe FlowKey = refl

may_be_colon : (json : Bool) (t : List ℕ) (i : ℕ) (c : Ctx) → code t i ≡ 32 → MayBeColon json t i c
may_be_colon true t i c e = tt
may_be_colon false t i c e = ap (λ k. is_plain_safe k c) e ∙ space_unsafe c

value_separate : (json : Bool) (t : List ℕ) (n : ℤ) (c : Ctx) (i : ℕ) → code t i ≡ 32 → ValueSeparate json t n c i (i + 1) []
value_separate true t n c i e = separated (space_separates n c i e)
value_separate false t n c i e = space_separates n c i e

pub value_made : {t : List ℕ} {json like colon : Bool} {c : Ctx} {v : List ℕ} {height : ℕ} {mean : ℕ → Meaning} (n : ℤ) (q : ℕ) (r : List ℕ) → IsUtf8 t → Back like colon c v height mean
    → Follows is_after_name r → Rest t q (58 ∷ 32 ∷ (v ++ r)) → Derives t height (ValueOf json n c) q (q + 2 + length v) (mean (q + 2))
value_made {t} {json} {like} {colon} {c} {v} {height} {mean} n q r u b f s =
    let sign = visible_at 58 u (omega arith) (omega arith) s in
    let space = visible_at 32 u (omega arith) (omega arith) sign.1 in
    let two : q + 1 + 1 ≡ q + 2 = omega arith in
    let rest : Rest t (q + 2) (v ++ r) = subst (λ j. Rest t j (v ++ r)) two space.1 in
    let apart : ValueSeparate json t n c (q + 1) (q + 2) [] = subst (λ j. ValueSeparate json t n c (q + 1) j []) two (value_separate json t n c (q + 1) space.0) in
    let node = b.made n (q + 2) r u (any_follow colon f) rest in
    subst (λ x. Derives t height (ValueOf json n c) q (q + 2 + length v) x) (after_nothing (mean (q + 2)))
    (a_value [] sign.0 (may_be_colon json t (q + 1) c space.0) apart (flow_node node))
