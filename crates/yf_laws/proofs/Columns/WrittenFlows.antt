-- A laid-out flow collection is, from bracket to bracket, as it is written.
use Rattle.std.proofs.Common.{◌≡◌, ℕ, ◌+◌, ◌-◌, ◌<◌, ◌≤◌, ◌⊎◌, inl, inr, ⊎_elim, pos, true, true≢false, List, [], ◌∷◌, ◌++◌, length, refl, sym, ap, ◌∙◌, subst, arith, append_assoc, length-append}
use Rattle.std.specs.Prelude.{slice_range}
use Rattle.std.specs.Str.{IsUtf8}
use Rattle.std.proofs.lemmas.Bool.{cases_lt}
use Rattle.yf_chars.specs.declared.context.Ctx.TheVariants.{FlowOut}
use Rattle.yf_chars.specs.Text.{code}
use Rattle.yf_chars.proofs.ChainLemmas.{chain_forward, one_functional}
use Rattle.yf_chars.specs.Class.{is_nb_char}
use Rattle.yf_lines.specs.Basic.{LineStart}
use Rattle.yf_lines.specs.Rest.{Rest}
use Rattle.yf_lines.proofs.ClearLemmas.{Quiet}
use Rattle.yf_lines.proofs.RestLemmas.{rest_ascii, rest_is_at, rest_text, slice_back}
use Rattle.yf_props.specs.Props.{PropsValue, no_props}
use Rattle.yf_props.specs.Written.{props_at, props_bytes}
use Rattle.yf_events.specs.Tree.{Node, scalar, alias, sequence, mapping, no_items, item, no_pairs, pair, props_of}
use Rattle.yf_grammar.proofs.WrittenTexts.LeafBack.{propertied}
use Rattle.yf_grammar.proofs.NodesInText.NodePlaces.{content_alone}
use Rattle.yf_stream.proofs.Uniqueness.OneDirective.{ascii_ns}
use Rattle.yf_forms.specs.declared.style.Style.{Style}
use Rattle.yf_forms.specs.Nodes.ContentStart.{content_start}
use Rattle.yf_laws.specs.Layouts.ReadableTrees.{FitProps, no_fit_props, some_fit_props}
use Rattle.yf_forms.specs.Nodes.OneLine.{bare, props_text, spaced, written}
use Rattle.yf_laws.proofs.Writable.ContentFound.{content_found, content_starts_are_found}
use Rattle.yf_laws.proofs.Columns.FlowHeads.{is_bracketed}
use Rattle.yf_laws.proofs.RowNodes.FoundNodes.{NodeText}
use Rattle.yf_laws.proofs.Writable.LeafFits.{props_before}
use Rattle.yf_laws.proofs.Columns.LinePlaces.{OnLine, on_more}
use Rattle.yf_laws.proofs.Columns.WrittenNodes.{WrittenAt}

-- From bracket to bracket.

-- its content begins with a bracket
record Opened (house : Style) (y : Node) : Type 0 where
  sign : ℕ
  more : List ℕ
  is : bare house y ≡ sign ∷ more
  bracket : (sign ≡ 91) ⊎ (sign ≡ 123)

opened : (house : Style) (y : Node) → is_bracketed y ≡ true → Opened house y
opened house (scalar at props style text lines) f = absurd (true≢false (sym f))
opened house (alias at name) f = absurd (true≢false (sym f))
opened house (sequence at flow props no_items) f = record { sign = 91; more = 93 ∷ []; is = refl; bracket = inl refl }
opened house (sequence at flow props (item x xs)) f = record { sign = 91; more = _; is = refl; bracket = inl refl }
opened house (mapping at flow props no_pairs) f = record { sign = 123; more = 125 ∷ []; is = refl; bracket = inr refl }
opened house (mapping at flow props (pair k v ps)) f = record { sign = 123; more = _; is = refl; bracket = inr refl }

sign_low : (c : ℕ) → (c ≡ 91) ⊎ (c ≡ 123) → (39 ≤ c) × (c < 127)
sign_low c f = ⊎_elim (λ (e : c ≡ 91). (omega (arith, e), omega (arith, e))) (λ (e : c ≡ 123). (omega (arith, e), omega (arith, e))) f

-- the start of its content, after its properties
content_at : {t : List ℕ} {i : ℕ} {p : PropsValue} (c : ℕ) (w r : List ℕ) → IsUtf8 t → FitProps p → (c ≡ 91) ⊎ (c ≡ 123) → Rest t i (spaced (props_text p) (c ∷ w) ++ r)
    → slice_range t (content_start t (record { start = i; end = i + length (spaced (props_text p) (c ∷ w)) }) p) (i + length (spaced (props_text p) (c ∷ w))) ≡ c ∷ w
content_at {t} {i} c w r u no_fit_props f s =
    let begins : content_start t (record { start = i; end = i + length (c ∷ w) }) no_props ≡ i = content_found u (i + length (c ∷ w)) content_alone (omega arith) in
    ap (λ k. slice_range t k (i + length (c ∷ w))) begins ∙ slice_back (c ∷ w) r (rest_is_at s)
content_at {t} {i} c w r u (some_fit_props {p = p} k n) f s =
    let said : spaced (props_text p) (c ∷ w) ≡ props_bytes p ++ (32 ∷ c ∷ w) = props_before (c ∷ w) k n refl in
    let here : Rest t i (props_bytes p ++ (32 ∷ ((c ∷ w) ++ r))) =
    subst (λ z. Rest t i z) (append_assoc (props_bytes p) (32 ∷ c ∷ w) r) (subst (λ z. Rest t i (z ++ r)) said s) in
    let at = propertied (pos 0) FlowOut ((c ∷ w) ++ r) u k n here in
    let g : ℕ = i + length (props_bytes p) in
    let end : ℕ = i + length (spaced (props_text p) (c ∷ w)) in
    let low = sign_low c f in
    let low_from : 39 ≤ c = low.0 in
    let low_to : c < 127 = low.1 in
    let long : length (spaced (props_text p) (c ∷ w)) ≡ length (props_bytes p) + length (32 ∷ c ∷ w) = ap length said ∙ length-append (props_bytes p) (32 ∷ c ∷ w) in
    let last : g + 1 + length (c ∷ w) ≡ end = omega (arith, long) in
    let sign : code t (g + 1) ≡ c = (rest_ascii c u (omega (arith, low_to)) (λ e. omega (arith, low_from, e)) at.rest).0.char in
    let begins : content_start t (record { start = i; end = end }) p ≡ g + 1 =
    content_starts_are_found t (pos 0) FlowOut i g (g + 1) end (props_at i p) [] u at.properties at.separate (ascii_ns (code t (g + 1)) (omega (arith, low_from, sign)) (omega (arith, low_to, sign)))
    (λ e. omega (arith, low_from, sign, e)) (λ e. omega (arith, low_from, sign, e)) (λ e. omega (arith, low_from, sign, e)) (omega (arith, last)) in
    ap (λ k. slice_range t k end) begins ∙ (ap (λ k. slice_range t (g + 1) k) (sym last) ∙ slice_back (c ∷ w) r (rest_is_at at.rest))

written_text : (house : Style) {t : List ℕ} {i : ℕ} (y : Node) (r : List ℕ) → IsUtf8 t → FitProps (props_of y) → Opened house y → Rest t i (written house y ++ r)
    → slice_range t (content_start t (record { start = i; end = i + length (written house y) }) (props_of y)) (i + length (written house y)) ≡ bare house y
written_text house {t} {i} y r u fit o s =
    let there : Rest t i (spaced (props_text (props_of y)) (o.sign ∷ o.more) ++ r) = subst (λ w. Rest t i (spaced (props_text (props_of y)) w ++ r)) o.is s in
    subst (λ w. slice_range t (content_start t (record { start = i; end = i + length (spaced (props_text (props_of y)) w) }) (props_of y)) (i + length (spaced (props_text (props_of y)) w)) ≡ w)
    (sym o.is) (content_at o.sign o.more r u fit o.bracket there)

-- On its line.

spaced_long : (x y : List ℕ) → 0 < length y → 0 < length (spaced x y)
spaced_long [] y l = l
spaced_long (b ∷ x) [] l = omega arith
spaced_long (b ∷ x) (c ∷ y) l = omega arith

long_of : (house : Style) (y : Node) → Opened house y → 0 < length (written house y)
long_of house y o = spaced_long (props_text (props_of y)) (bare house y) (let l : length (bare house y) ≡ length (o.sign ∷ o.more) = ap length o.is in omega (arith, l))

line_before : {t : List ℕ} {m i j : ℕ} (a : OnLine t m j) → Quiet t i j → i < j → a.line < j
line_before {t} {m} {i} {j} a q l =
    ⊎_elim (λ (h : a.line < j). h)
    (λ (h : j ≤ a.line).
    let far : a.line ≤ j = chain_forward (one_functional t is_nb_char) a.run in
    let same : a.line ≡ j = omega (arith, h, far) in
    absurd (q.none j l (omega arith) (subst (λ k. LineStart t k) same a.start)))
    (cases_lt a.line j)

pub flow_written : (house : Style) {t : List ℕ} {column i : ℕ} {y : Node} → IsUtf8 t → NodeText house t i y → is_bracketed y ≡ true → OnLine t column i → WrittenAt house t column y
flow_written house {t} {column} {i} {y} u a f on =
    let b = a.flow f in
    let o = opened house y f in
    let long : 0 < length (written house y) = long_of house y o in
    let there = on_more (written house y) a.follows u a.line on a.there in
    let quiet = (rest_text (written house y) u a.line a.there).quiet in
    let e : ℕ = i + length (written house y) in
    record {
      span = record { start = i; end = e };
      is = b.span;
      text = written_text house y a.follows u b.props o a.there;
      on = there;
      some = line_before there quiet (omega (arith, long));
      last = ⊎_elim (λ (z : code t (e - 1) ≡ 93). omega (arith, z)) (λ (z : code t (e - 1) ≡ 125). omega (arith, z)) b.last;
    }
