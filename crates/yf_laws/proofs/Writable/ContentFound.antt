-- The derived start of a node's content is the one found from the bytes of its properties and of the separation after
-- them.
use Rattle.std.proofs.Common.{◌≡◌, ◌≢◌, ℕ, ℤ, ◌+◌, ◌-◌, ◌<◌, ◌≤◌, Bool, true, false, List, length, drop, get_or, Some, refl, sym, ap, ◌∙◌, subst, ⊎_elim, arith}
use Rattle.std.specs.Prelude.{◌==◌, if◌then◌else◌, slice_range}
use Rattle.std.specs.Str.{IsUtf8}
use Rattle.std.proofs.lemmas.Bool.{cases_lt, ne_eqb}
use Rattle.std.proofs.lemmas.Bool.Decides.{nat_tests}
use Rattle.std.proofs.lemmas.List.{length-drop, length-take}
use Rattle.yf_chars.specs.declared.context.Ctx.{Ctx}
use Rattle.yf_chars.specs.Class.{is_between, is_break_char, is_nb_char, is_ns_char, is_printable, is_white}
use Rattle.yf_chars.specs.Text.{code}
use Rattle.yf_chars.proofs.TextLemmas.{byte_from_code, reads_real}
use Rattle.yf_comments.specs.Comment.{CommentValue}
use Rattle.yf_comments.specs.Comments.{Separate}
use Rattle.yf_props.specs.Names.{Anchor, Handle, Properties, PropertiesValue, TagProperty}
use Rattle.yf_props.specs.Names.Anchor.{ampersand_name}
use Rattle.yf_props.specs.Names.Handle.{named_handle, primary_handle, secondary_handle}
use Rattle.yf_props.specs.Names.Properties.{anchor_first, by_anchor, by_tag, tag_first}
use Rattle.yf_props.specs.Names.ShorthandTag.{handle_suffix}
use Rattle.yf_props.specs.Names.TagProperty.{non_specific_tag, shorthand_tag, verbatim_tag}
use Rattle.yf_props.specs.Names.VerbatimTag.{in_brackets}
use Rattle.yf_props.specs.Props.{PropsValue, TagValue, no_props}
use Rattle.yf_props.proofs.SeparationEnds.{separate_forward}
use Rattle.yf_grammar.specs.FlowReader.Parser.{begins_content, begins_properties}
use Rattle.yf_grammar.proofs.Ends.GapLemmas.{Visible}
use Rattle.yf_grammar.proofs.NodesInText.NodePlaces.{ContentFrom, content_alone, content_after}
use Rattle.yf_grammar.proofs.NodesInText.PlacedLeaves.{content_visible, properties_visible}
use Rattle.yf_grammar.proofs.FlowReader.Outcome.{anchor_code}
use Rattle.yf_laws.proofs.Writable.ContentLaws.{ContentStartsAreFound}
use Rattle.yf_forms.specs.Nodes.ContentStart.{anchor_len, content_start, past_gap, past_second, property_len, tag_len, written_len}
use Rattle.yf_forms.proofs.Texts.GapLemmas.{gap_none, gap_over, past_gap_is}
use Rattle.yf_laws.proofs.Writable.GapPasses.{gap_left, separate_pass}
use Rattle.yf_laws.proofs.Texts.HighBytes.{high_there}

-- A byte that ends a gap.

record Stops (t : List ℕ) (k : ℕ) : Type 0 where
  within : k < length t
  above : 32 < get_or t k 0
  no_sign : get_or t k 0 ≢ 35

ns_above : (c : ℕ) → is_ns_char c ≡ true → 32 < c
unfolding is_ns_char is_nb_char is_printable is_between is_break_char is_white
ns_above c e = grind (arith, nat_tests)

ns_real : (c : ℕ) → is_ns_char c ≡ true → c < 0x110000
unfolding is_ns_char is_nb_char is_printable is_between is_break_char is_white
ns_real c e = grind (arith, nat_tests)

visible_stops : {t : List ℕ} (k : ℕ) → IsUtf8 t → Visible t k → Stops t k
visible_stops {t} k u v = ⊎_elim
    (λ (l : code t k < 128).
    let byte = byte_from_code t k u l in
    let above = ns_above (code t k) v.ns in
    record { within = byte.0; above = (let same = byte.1 in omega (arith, same, above)); no_sign = λ q. v.no_hash (sym byte.1 ∙ q) })
    (λ (l : 128 ≤ code t k).
    let r = reads_real t k u (ns_real (code t k) v.ns) in
    let high : 128 ≤ get_or t k 0 = subst (λ z. 128 ≤ get_or t z 0) (omega arith) (high_there r l 0 (let later = r.later in omega (arith, later))) in
    record { within = (let later = r.later in let end = r.within in omega (arith, later, end)); above = omega (arith, high); no_sign = λ q. absurd (omega (arith, high, q)) })
    (cases_lt (code t k) 128)

content_no_anchor : (c : ℕ) → begins_content c ≡ true → c ≢ 38
unfolding begins_content
content_no_anchor c e q = grind (arith, nat_tests)

content_no_tag : (c : ℕ) → begins_content c ≡ true → c ≢ 33
unfolding begins_content
content_no_tag c e q = grind (arith, nat_tests)

signs_begin : (begins_properties 38 ≡ true) × (begins_properties 33 ≡ true)
unfolding begins_properties
signs_begin = (refl, refl)

-- The number of bytes of a property.

slice_long : (t : List ℕ) (i j : ℕ) → j ≤ length t → length (slice_range t i j) ≡ j - i
slice_long t i j l = omega (arith, length-take (j - i) (drop i t), length-drop i t, l)

anchor_written : {t : List ℕ} {i j : ℕ} {name : List ℕ} (props : PropsValue) → Anchor t i j name → props.anchor ≡ Some name → j ≤ length t
    → (i + written_len (code t i) props ≡ j) × (i < j)
anchor_written {t} props (ampersand_name {i = i} {j = j} e r) q l =
    let some = r.some in
    let long = slice_long t (i + 1) j l in
    let last : i + (length (slice_range t (i + 1) j) + 1) ≡ j = omega (arith, some, long) in
    (ap (λ c. i + written_len c props) e ∙ (ap (λ o. i + anchor_len o) q ∙ last), omega (arith, some))

handle_sign : {t : List ℕ} {i h : ℕ} → Handle t i h → (code t i ≡ 33) × (i < h)
handle_sign (primary_handle e) = (e, omega arith)
handle_sign (secondary_handle e f) = (e, omega arith)
handle_sign (named_handle e r f) = let s = r.some in (e, omega (arith, s))

record TagSize (t : List ℕ) (i j : ℕ) (tag : TagValue) : Type 0 where
  sign : code t i ≡ 33
  later : i < j
  size : i + tag_len (Some tag) ≡ j

tag_size : {t : List ℕ} {i j : ℕ} {tag : TagValue} → TagProperty t i j tag → j ≤ length t → TagSize t i j tag
tag_size {t} (verbatim_tag (in_brackets {i = i} {j = j} e f r g)) l =
    let some = r.some in
    let long = slice_long t (i + 2) j (omega (arith, l)) in
    record { sign = e; later = omega (arith, some); size = omega (arith, some, long) }
tag_size {t} (shorthand_tag (handle_suffix {i = i} {h = h} {j = j} a r)) l =
    let s = handle_sign a in
    let some = r.some in
    let later = s.1 in
    let first = slice_long t i h (omega (arith, l, some)) in
    let last = slice_long t h j l in
    record { sign = s.0; later = omega (arith, some, later); size = omega (arith, some, later, first, last) }
tag_size (non_specific_tag e n) l = record { sign = e; later = omega arith; size = omega arith }

tag_written : {t : List ℕ} {i j : ℕ} {tag : TagValue} (props : PropsValue) → TagProperty t i j tag → props.tag ≡ Some tag → j ≤ length t
    → (i + written_len (code t i) props ≡ j) × (i < j)
tag_written {i = i} props a q l =
    let s = tag_size a l in (ap (λ c. i + written_len c props) s.sign ∙ (ap (λ o. i + tag_len o) q ∙ s.size), s.later)

property_is : (t : List ℕ) (i j : ℕ) (props : PropsValue) → (i + written_len (code t i) props ≡ j) × (i < j) → j ≤ length t → i + property_len t i props ≡ j
unfolding property_len
property_is t i j props w l = let same = w.0 in let later = w.1 in omega (arith, same, later, l)

no_property : (t : List ℕ) (i : ℕ) (props : PropsValue) → code t i ≢ 38 → code t i ≢ 33 → property_len t i props ≡ 0
unfolding property_len
no_property t i props e f =
    let none : written_len (code t i) props ≡ 0 = rw (ne_eqb (code t i) 38 e, ne_eqb (code t i) 33 f) refl in
    omega (arith, none)

nothing_written : (t : List ℕ) (i : ℕ) → property_len t i no_props ≡ 0
unfolding property_len
nothing_written t i = let none : written_len (code t i) no_props ≡ 0 = by (code t i == 38) (code t i == 33) in omega (arith, none) where
  zero : ℕ
  zero = 0

  by : (p q : Bool) → (if p then zero else (if q then zero else zero)) ≡ zero
  by true q = refl
  by false true = refl
  by false false = refl

-- From one property to the next, and to the content.

after_none : (t : List ℕ) (a b : ℕ) (props : PropsValue) → property_len t a props ≡ 0 → content_start t (record { start = a; end = b }) props ≡ a
unfolding content_start
after_none t a b props e = rw e refl

after_first : (t : List ℕ) (a b g k : ℕ) (props : PropsValue) → a + property_len t a props ≡ g → a < g → past_gap t g b ≡ k
    → content_start t (record { start = a; end = b }) props ≡ past_second t k b props
unfolding content_start
after_first t a b g k props e l p =
    rw (ne_eqb (property_len t a props) 0 (λ q. absurd (omega (arith, e, l, q)))) (ap (λ z. past_second t (past_gap t z b) b props) e ∙ ap (λ z. past_second t z b props) p)

second_none : (t : List ℕ) (k b : ℕ) (props : PropsValue) → property_len t k props ≡ 0 → past_second t k b props ≡ k
unfolding past_second
second_none t k b props e = rw e refl

after_second : (t : List ℕ) (h b g k : ℕ) (props : PropsValue) → h + property_len t h props ≡ g → h < g → past_gap t g b ≡ k → past_second t h b props ≡ k
unfolding past_second
after_second t h b g k props e l p = rw (ne_eqb (property_len t h props) 0 (λ q. absurd (omega (arith, e, l, q)))) (ap (λ z. past_gap t z b) e ∙ p)

module _ {t : List ℕ} (u : IsUtf8 t) where
  gap_to : {n : ℤ} {c : Ctx} {g k : ℕ} {cs : List CommentValue} (b : ℕ) → Separate t n c g k cs → Stops t k → k < b → past_gap t g b ≡ k
  gap_to {g = g} {k = k} b s stops l =
      let within = stops.within in
      let above = stops.above in
      let m : ℕ = g + gap_left t b g false in
      let here : m ≡ k + gap_left t b k false = separate_pass u b k l within s (omega arith) m refl in
      let none : (bs : List ℕ) → _ =
      λ (bs : List ℕ). gap_none false (get_or t k 0) bs (λ q. absurd (omega (arith, above, q))) (λ q. absurd (omega (arith, above, q))) refl
      (λ q. absurd (omega (arith, above, q))) (λ q. absurd (omega (arith, above, q))) stops.no_sign in
      sym (past_gap_is t g b k (sym (gap_over t b k m false (omega (arith, l, within)) here none)))

  sign_stops : (i : ℕ) (d : ℕ) → code t i ≡ d → begins_properties d ≡ true → Stops t i
  sign_stops i d e f = visible_stops i u (properties_visible (ap begins_properties e ∙ f))

  -- after one property and after two
  after_properties : {n : ℤ} {c : Ctx} {a g k : ℕ} {p : PropertiesValue} {cs : List CommentValue} (b : ℕ) → Properties t n c a g p → Separate t n c g k cs → Visible t k
      → code t k ≢ 38 → code t k ≢ 33 → k < b → content_start t (record { start = a; end = b }) p.props ≡ k
  after_properties {a = a} {g = g} {k = k} {p = p} b (by_tag x) s v e f l =
      let stops = visible_stops k u v in
      let within = stops.within in
      let d = separate_forward s in
      let size = tag_written p.props x refl (omega (arith, within, d)) in
      after_first t a b g k p.props (property_is t a g p.props size (omega (arith, within, d))) size.1 (gap_to b s stops l)
      ∙ second_none t k b p.props (no_property t k p.props e f)
  after_properties {a = a} {g = g} {k = k} {p = p} b (by_anchor x) s v e f l =
      let stops = visible_stops k u v in
      let within = stops.within in
      let d = separate_forward s in
      let size = anchor_written p.props x refl (omega (arith, within, d)) in
      after_first t a b g k p.props (property_is t a g p.props size (omega (arith, within, d))) size.1 (gap_to b s stops l)
      ∙ second_none t k b p.props (no_property t k p.props e f)
  after_properties {a = a} {g = g} {k = k} {p = p} b (tag_first {h = h} {k = o} x r y) s v e f l =
      let stops = visible_stops k u v in
      let within = stops.within in
      let d = separate_forward s in
      let m = separate_forward r in
      let last = anchor_written p.props y refl (omega (arith, within, d)) in
      let later = last.1 in
      let first = tag_written p.props x refl (omega (arith, within, d, m, later)) in
      after_first t a b h o p.props (property_is t a h p.props first (omega (arith, within, d, m, later))) first.1
      (gap_to b r (sign_stops o 38 (anchor_code y) signs_begin.0) (omega (arith, l, d, later)))
      ∙ after_second t o b g k p.props (property_is t o g p.props last (omega (arith, within, d))) last.1 (gap_to b s stops l)
  after_properties {a = a} {g = g} {k = k} {p = p} b (anchor_first {h = h} {k = o} x r y) s v e f l =
      let stops = visible_stops k u v in
      let within = stops.within in
      let d = separate_forward s in
      let m = separate_forward r in
      let last = tag_written p.props y refl (omega (arith, within, d)) in
      let later = last.1 in
      let first = anchor_written p.props x refl (omega (arith, within, d, m, later)) in
      let sign = (tag_size y (omega (arith, within, d))).sign in
      after_first t a b h o p.props (property_is t a h p.props first (omega (arith, within, d, m, later))) first.1
      (gap_to b r (sign_stops o 33 sign signs_begin.1) (omega (arith, l, d, later)))
      ∙ after_second t o b g k p.props (property_is t o g p.props last (omega (arith, within, d))) last.1 (gap_to b s stops l)

  -- the offset at which the content begins is the one that is found
  pub content_found : {a k : ℕ} {props : PropsValue} (b : ℕ) → ContentFrom t props a k → k < b → content_start t (record { start = a; end = b }) props ≡ k
  content_found {a = a} b content_alone l = after_none t a b no_props (nothing_written t a)
  content_found {k = k} b (content_after p s e) l = after_properties b p s (content_visible e) (content_no_anchor (code t k) e) (content_no_tag (code t k) e) l

pub content_starts_are_found : ContentStartsAreFound
content_starts_are_found t n c a g k b p cs u props s v h e f l = after_properties u b props s (record { ns = v; no_hash = h }) e f l
