-- Flow nodes (7.4 and 7.5): their tokens state what the relation `Derives` of `Grammar` means.
use Rattle.std.proofs.Common.{◌≡◌, ℕ, ◌+◌, ◌-◌, ◌<◌, ◌≤◌, ℤ, pos, Bool, true, false, List, [], ◌∷◌, ◌++◌, Some, None, length, take, drop, refl, sym, ap, ◌∙◌, subst, append_assoc, append-nil, arith}
use Rattle.std.specs.Str.{chars}
use Rattle.yf_chars.specs.declared.context.Ctx.{Ctx}
use Rattle.yf_chars.specs.declared.context.Ctx.TheVariants.{FlowKey}
use Rattle.yf_chars.specs.Text.{code, next}
use Rattle.yf_chars.specs.Class.{is_plain_safe}
use Rattle.yf_lines.specs.Basic.{SeparateInLine, is_block}
use Rattle.yf_comments.specs.Comments.{Separate}
use Rattle.yf_plain.specs.Plain.{PlainText}
use Rattle.yf_props.specs.Names.{Properties, PropertiesValue}
use Rattle.yf_events.specs.declared.event.ScalarStyle.TheVariants.{Plain}
use Rattle.yf_grammar.specs.Productions.Meaning.{Meaning, meaning_after, with_props, empty_node}
use Rattle.yf_grammar.specs.Productions.Grammar.{Production, Derives, MaySeparate, in_flow, characters_between, opening, closing}
use Rattle.yf_grammar.specs.Productions.Grammar.Production.{FlowNode, NodeOf, JsonContent, Entries, Entry, Pair, Explicit, Implicit, ValueOf, KeyOf}
use Rattle.yf_grammar.specs.Productions.Grammar.MaySeparate.{unseparated, separated}
use Rattle.yf_grammar.specs.Productions.Grammar.MaySeparateInLine.{unseparated_in_line, separated_in_line}
use Rattle.yf_grammar.specs.Productions.Grammar.Derives.{flow_node, an_alias, a_plain, a_plain_with, properties_alone, a_json, a_json_with, an_empty_collection, a_collection, last_entry, last_entry_with_comma, more_entries, a_node_entry, a_pair_entry, an_explicit_entry, an_implicit_entry, an_explicit_pair, a_keyed_pair, an_unkeyed_pair, explicit_with, explicit_without, key_alone, key_and_value, value_alone, empty_value, a_value, a_key}
use Rattle.yf_standard.specs.Characters.{x, ns-plain-safe}
use Rattle.yf_standard.specs.Productions.{in-flow-context}
use Rattle.yf_standard.specs.Contents.{marks}
use Rattle.yf_standard.specs.Tokens.{Token, notes, no_tokens}
use Rattle.yf_standard.specs.Tokens.Token.{a_scalar, starts, ends}
use Rattle.yf_standard.proofs.Meant.{Then, Either, Perhaps, Here, Character}
use Rattle.yf_standard.proofs.Meant.Then.{both}
use Rattle.yf_standard.proofs.Meant.Either.{left, right}
use Rattle.yf_standard.proofs.Meant.Perhaps.{missing, given}
use Rattle.yf_standard.proofs.Meant.Here.{here}
use Rattle.yf_standard.proofs.Meant.Character.{character}
use Rattle.yf_standard.proofs.Basics.{char_is}
use Rattle.yf_standard.proofs.BasicsMeant.{Quiet}
use Rattle.yf_standard.proofs.BasicsMeant.Puts.{puts}
use Rattle.yf_standard.proofs.CommentsMeant.{Noted, notes_append}
use Rattle.yf_standard.proofs.CommentsMeant.Noted.{noted}
use Rattle.yf_standard.proofs.NamesMeant.{Aliased}
use Rattle.yf_standard.proofs.NamesMeant.Aliased.{aliased}
use Rattle.yf_standard.proofs.Flows.{flow_same, flow_still}
use Rattle.yf_standard.proofs.Sets.{plain_safe_is}
use Rattle.yf_standard.proofs.SaidParts.{Says, SaysNode, SaysProps, says_same, said_after, said_noting, said_join, said_entering, says_comments, node_says, says_collection, says_empty, says_alias, says_text, says_with}

-- a node that its tokens state, with room for e open collections
pub record SomeSaid (t : List ℕ) (e : ℕ) (p : Production) (i j : ℕ) (y : List Token) : Type 0 where
  pub height : ℕ
  pub meaning : Meaning
  pub node : Derives t height p i j meaning
  pub fits : height ≤ e
  pub says : Says y meaning

pub said_is : {t : List ℕ} {p : Production} {i j h e : ℕ} {m : Meaning} {y : List Token} → Derives t h p i j m → h ≤ e → Says y m → SomeSaid t e p i j y
said_is {h = h} {m = m} d l f = record { height = h; meaning = m; node = d; fits = l; says = f }

abbrev pub SaidIn : List ℕ → ℕ → Ctx → Production → ℕ → ℕ → List Token → Type 0
SaidIn t e c p i j y = is_block c ≡ false → SomeSaid t e p i j y

-- JSON-like content, with properties before it or not
pub record ContentSaid (t : List ℕ) (e : ℕ) (n : ℤ) (c : Ctx) (i j : ℕ) (y : List Token) : Type 0 where
  pub height : ℕ
  pub meaning : Meaning
  pub node : Derives t height (JsonContent n c) i j meaning
  pub fits : height ≤ e
  pub says : SaysNode y meaning

abbrev pub ContentIn : List ℕ → ℕ → ℤ → Ctx → ℕ → ℕ → List Token → Type 0
ContentIn t e n c i j y = is_block c ≡ false → ContentSaid t e n c i j y

pub data PlainSaid (t : List ℕ) (n : ℤ) (c : Ctx) (i j : ℕ) : List Token → Type 0 where
  plain_said : {u : List ℕ} → PlainText t n c i j u → PlainSaid t n c i j (a_scalar Plain (marks u) ∷ [])

-- a node without text
pub data Unwritten : ℕ → ℕ → List Token → Type 0 where
  unwritten : {i : ℕ} → Unwritten i i (a_scalar Plain [] ∷ [])

pub record Propped (t : List ℕ) (n : ℤ) (c : Ctx) (i j : ℕ) (y : List Token) : Type 0 where
  pub value : PropertiesValue
  pub derived : Properties t n c i j value
  pub says : SaysProps y value

may_noted : {t : List ℕ} {n : ℤ} {c : Ctx} {i j : ℕ} {y : List Token} → Perhaps (Noted (Separate t n c)) i j y → Noted (MaySeparate t n c) i j y
may_noted missing = noted unseparated
may_noted (given (noted s)) = noted (separated s)

-- an indicator before a part
pub record Signed (t : List ℕ) (d : ℕ) (Q : ℕ → ℕ → List Token → Type 0) (i j : ℕ) (y : List Token) : Type 0 where
  pub sign : code t i ≡ d
  pub rest : Q (i + 1) j y

pub signed : {t : List ℕ} {d : ℕ} {Q : ℕ → ℕ → List Token → Type 0} {i j : ℕ} {y : List Token} → d < 128 → Then (Character t no_tokens (x d)) Q i j y → Signed t d Q i j y
signed {t} {d} {Q} {j = j} l (both {y = y} (character {i = i} s) q) =
    let a = char_is t i (next t i) d l (s, refl) in record { sign = a.0; rest = subst (λ k. Q k j y) (sym a.1) q }

-- [137] and [140]
pub brackets_said : {t : List ℕ} {e r : ℕ} (s : Bool) {n : ℤ} {c : Ctx} {i j : ℕ} {y : List Token} → r < e → is_block c ≡ false → opening s < 128 → closing s < 128
    → Then (Character t no_tokens (x (opening s))) (Then (Perhaps (Noted (Separate t n c))) (Then (Perhaps (SaidIn t r c (Entries s n (in_flow c)))) (Character t no_tokens (x (closing s))))) i j y
    → ContentSaid t e n c i j (starts s true ∷ (y ++ ends s ∷ []))
brackets_said {t} {e} {r} s {n} {c} {i} {j} w b l m d = let f = signed l d in go f.sign f.rest where
  inside : {k q : ℕ} {u v : List Token} → code t i ≡ opening s → Noted (MaySeparate t n c) (i + 1) k u → Perhaps (SaidIn t r c (Entries s n (in_flow c))) k q v → code t q ≡ closing s
      → ContentSaid t e n c i (q + 1) (starts s true ∷ ((u ++ (v ++ [])) ++ ends s ∷ []))
  inside {q = q} o (noted {x = cs} a) missing p =
      record { height = 1; meaning = _; node = an_empty_collection s b o a p; fits = omega (arith, w); says = says_collection s true i (q + 1) (says_same (sym (append-nil (notes cs))) (says_comments cs q)) }
  inside {q = q} {v = v} o (noted {x = cs} a) (given f) p =
      let g = f b in
      let h = g.fits in
      record { height = _; meaning = _; node = a_collection s b o a g.node p; fits = omega (arith, w, h); says = says_collection s true i (q + 1) (says_same (ap (λ z. notes cs ++ z) (sym (append-nil v))) (said_after cs g.says)) }

  last : {g k j : ℕ} {u v w : List Token} → code t i ≡ opening s → Noted (MaySeparate t n c) (i + 1) g u → Perhaps (SaidIn t r c (Entries s n (in_flow c))) g k v → Character t no_tokens (x (closing s)) k j w
      → ContentSaid t e n c i j (starts s true ∷ ((u ++ (v ++ w)) ++ ends s ∷ []))
  last {u = u} {v = v} o a q (character {i = k} p) =
      let f = char_is t k (next t k) (closing s) m (p, refl) in
      subst (λ z. ContentSaid t e n c i z (starts s true ∷ ((u ++ (v ++ [])) ++ ends s ∷ []))) f.1 (inside o a q f.0)

  go : {j : ℕ} {y : List Token} → code t i ≡ opening s → Then (Perhaps (Noted (Separate t n c))) (Then (Perhaps (SaidIn t r c (Entries s n (in_flow c)))) (Character t no_tokens (x (closing s)))) (i + 1) j y
      → ContentSaid t e n c i j (starts s true ∷ (y ++ ends s ∷ []))
  go o (both a (both q p)) = last o (may_noted a) q p

within : {t : List ℕ} {e : ℕ} {n : ℤ} (c : Ctx) {i j : ℕ} {y : List Token} → Perhaps (SaidIn t e (in-flow-context c) (Entries false n (in-flow-context c))) i j y
    → Perhaps (SaidIn t e c (Entries false n (in_flow c))) i j y
within c missing = missing
within {t} {e} {n} c {i} {j} {y} (given f) = given (λ b. subst (λ z. SomeSaid t e (Entries false n z) i j y) (flow_same c) (f (flow_still c b)))

pub mapping_parts : {t : List ℕ} {e : ℕ} {n : ℤ} (c : Ctx) {P Q R : ℕ → ℕ → List Token → Type 0} {i j : ℕ} {y : List Token}
    → Then P (Then Q (Then (Perhaps (SaidIn t e (in-flow-context c) (Entries false n (in-flow-context c)))) R)) i j y → Then P (Then Q (Then (Perhaps (SaidIn t e c (Entries false n (in_flow c)))) R)) i j y
mapping_parts c (both p (both q (both f r))) = both p (both q (both (within c f) r))

-- [138] and [141]
pub entries_said : {t : List ℕ} {e : ℕ} {s : Bool} {n : ℤ} {c : Ctx} {i j : ℕ} {y : List Token} → is_block c ≡ false
    → Then (SaidIn t e c (Entry s n c)) (Then (Perhaps (Noted (Separate t n c)))
    (Perhaps (Then (Character t no_tokens (x 44)) (Then (Perhaps (Noted (Separate t n c))) (Perhaps (SaidIn t e c (Entries s n c))))))) i j y
    → SomeSaid t e (Entries s n c) i j y
entries_said {t} {e} {s} {n} {c} {i} {j} b (both {k = g} {x = u} f (both a d)) = go (may_noted a) d where
  entry : SomeSaid t e (Entry s n c) i g u
  entry = f b

  after : {k m : ℕ} {v w z : List Token} → Noted (MaySeparate t n c) g k v → code t k ≡ 44 → Noted (MaySeparate t n c) (k + 1) m w → Perhaps (SaidIn t e c (Entries s n c)) m j z
      → SomeSaid t e (Entries s n c) i j (u ++ (v ++ (w ++ z)))
  after (noted {x = cs} a) o (noted {x = ds} r) missing =
      said_is (last_entry_with_comma entry.node a o r) entry.fits (says_same (ap (λ z. u ++ z) (notes_append cs ds ∙ ap (λ z. notes cs ++ z) (sym (append-nil (notes ds))))) (said_noting entry.says (cs ++ ds)))
  after {z = z} (noted {x = cs} a) o (noted {x = ds} r) (given q) =
      let h = q b in
      let p = h.fits in
      let l = entry.fits in
      said_is (more_entries entry.node a o r h.node) (omega (arith, l, p))
      (says_same (append_assoc u (notes (cs ++ ds)) z ∙ ap (λ v. u ++ v) (ap (λ v. v ++ z) (notes_append cs ds) ∙ append_assoc (notes cs) (notes ds) z)) (said_join (said_noting entry.says (cs ++ ds)) h.says))

  more : {k : ℕ} {v w : List Token} → Noted (MaySeparate t n c) g k v → code t k ≡ 44 → Then (Perhaps (Noted (Separate t n c))) (Perhaps (SaidIn t e c (Entries s n c))) (k + 1) j w
      → SomeSaid t e (Entries s n c) i j (u ++ (v ++ w))
  more a o (both r q) = after a o (may_noted r) q

  go : {k : ℕ} {v w : List Token} → Noted (MaySeparate t n c) g k v → Perhaps (Then (Character t no_tokens (x 44)) (Then (Perhaps (Noted (Separate t n c))) (Perhaps (SaidIn t e c (Entries s n c))))) k j w
      → SomeSaid t e (Entries s n c) i j (u ++ (v ++ w))
  go (noted {x = cs} a) missing = said_is (last_entry entry.node a) entry.fits (says_same (ap (λ z. u ++ z) (sym (append-nil (notes cs)))) (said_noting entry.says cs))
  go a (given d) = let q = signed (omega arith) d in more a q.sign q.rest

-- [142] and [150]: ? and an explicit entry
abbrev pub ExplicitIn : List ℕ → ℕ → ℤ → Ctx → ℕ → ℕ → List Token → Type 0
ExplicitIn t e n c i j y = is_block c ≡ false → (s : ℕ) → SomeSaid t e (Explicit n c s) i j y

abbrev pub ImplicitIn : List ℕ → ℕ → ℤ → Ctx → ℕ → ℕ → List Token → Type 0
ImplicitIn t e n c i j y = is_block c ≡ false → (s : ℕ) → SomeSaid t e (Implicit n c s) i j y

abbrev pub MarkedForm : List ℕ → ℕ → ℤ → Ctx → ℕ → ℕ → List Token → Type 0
MarkedForm t e n c = Then (Character t no_tokens (x 63)) (Then (Noted (Separate t n c)) (ExplicitIn t e n c))

pub map_entry_said : {t : List ℕ} {e : ℕ} {n : ℤ} {c : Ctx} {i j : ℕ} {y : List Token} → is_block c ≡ false → Either (MarkedForm t e n c) (ImplicitIn t e n c) i j y → SomeSaid t e (Entry false n c) i j y
map_entry_said {t} {e} {n} {c} {i} {j} b (left d) = let f = signed (omega arith) d in go f.sign f.rest where
  go : {y : List Token} → code t i ≡ 63 → Then (Noted (Separate t n c)) (ExplicitIn t e n c) (i + 1) j y → SomeSaid t e (Entry false n c) i j y
  go o (both (noted {x = cs} s) q) = let g = q b i in said_is (an_explicit_entry o s g.node) g.fits (said_after cs g.says)
map_entry_said {i = i} b (right q) = let g = q b i in said_is (an_implicit_entry g.node) g.fits g.says

pub pair_said : {t : List ℕ} {e : ℕ} {n : ℤ} {c : Ctx} {i j : ℕ} {y : List Token} → is_block c ≡ false → Either (MarkedForm t e n c) (SaidIn t e c (Pair n c)) i j y → SomeSaid t e (Pair n c) i j y
pair_said {t} {e} {n} {c} {i} {j} b (left d) = let f = signed (omega arith) d in go f.sign f.rest where
  go : {y : List Token} → code t i ≡ 63 → Then (Noted (Separate t n c)) (ExplicitIn t e n c) (i + 1) j y → SomeSaid t e (Pair n c) i j y
  go o (both (noted {x = cs} s) q) = let g = q b i in said_is (an_explicit_pair o s g.node) g.fits (said_after cs g.says)
pair_said b (right q) = q b

-- [143]
pub explicit_said : {t : List ℕ} {e : ℕ} {n : ℤ} {c : Ctx} {i j : ℕ} {y : List Token} → is_block c ≡ false → (s : ℕ) → Either (ImplicitIn t e n c) (Then Unwritten Unwritten) i j y
    → SomeSaid t e (Explicit n c s) i j y
explicit_said b s (left q) = let g = q b s in said_is (explicit_with g.node) g.fits g.says
explicit_said b s (right (both unwritten unwritten)) =
    said_is (explicit_without b) (omega arith) (said_join (said_entering s None (node_says (says_empty (s + 1)))) (node_says (says_empty (s + 1))))

-- [145] and [148]
pub key_entry_said : {t : List ℕ} {e : ℕ} {json : Bool} {n : ℤ} {c : Ctx} {i j : ℕ} {y : List Token} → is_block c ≡ false → (s : ℕ)
    → Then (SaidIn t e c (NodeOf json n c)) (Either (Then (Perhaps (Noted (Separate t n c))) (SaidIn t e c (ValueOf json n c))) Unwritten) i j y → SomeSaid t e (Implicit n c s) i j y
key_entry_said {t} {e} {json} {n} {c} {i} {j} b s (both {k = l} {x = u} f (left (both {k = k} {y = w} a q))) = go (may_noted a) where
  go : {v : List Token} → Noted (MaySeparate t n c) l k v → SomeSaid t e (Implicit n c s) i j (u ++ (v ++ w))
  go (noted {x = cs} a) =
      let g = f b in
      let h = q b in
      let o = g.fits in
      let p = h.fits in
      said_is (key_and_value g.node a h.node) (omega (arith, o, p)) (says_same (append_assoc u (notes cs) w) (said_join (said_noting (said_entering s (Some k) g.says) cs) h.says))
key_entry_said b s (both f (right unwritten)) =
    let g = f b in said_is (key_alone g.node) g.fits (said_join (said_entering s None g.says) (node_says (says_empty g.meaning.finish)))

-- [146]
pub data Keyless (t : List ℕ) (e : ℕ) (n : ℤ) (c : Ctx) (i j : ℕ) : List Token → Type 0 where
  keyless : {w : List Token} → SaidIn t e c (ValueOf false n c) i j w → Keyless t e n c i j (a_scalar Plain [] ∷ w)

pub empty_key_said : {t : List ℕ} {e : ℕ} {n : ℤ} {c : Ctx} {i j : ℕ} {y : List Token} → Then Unwritten (SaidIn t e c (ValueOf false n c)) i j y → Keyless t e n c i j y
empty_key_said (both unwritten q) = keyless q

-- [144]
pub keyless_entry_said : {t : List ℕ} {e : ℕ} {n : ℤ} {c : Ctx} {i j : ℕ} {y : List Token} → is_block c ≡ false → (s : ℕ) → Keyless t e n c i j y → SomeSaid t e (Implicit n c s) i j y
keyless_entry_said {i = i} b s (keyless q) = let g = q b in said_is (value_alone g.node) g.fits (said_join (said_entering s (Some i) (node_says (says_empty i))) g.says)

-- [147] and [149]
pub separate_value_said : {t : List ℕ} {e : ℕ} {n : ℤ} {c : Ctx} {i j : ℕ} {y : List Token} → is_block c ≡ false
    → Then (Character t no_tokens (x 58)) (Then (Here (λ i. ns-plain-safe c (code t i) ≡ false)) (Either (Then (Noted (Separate t n c)) (SaidIn t e c (FlowNode n c))) Unwritten)) i j y
    → SomeSaid t e (ValueOf false n c) i j y
separate_value_said {t} {e} {n} {c} {i} {j} b d = let f = signed (omega arith) d in go f.sign f.rest where
  value : {j : ℕ} {y : List Token} → code t i ≡ 58 → is_plain_safe (code t (i + 1)) c ≡ false → Either (Then (Noted (Separate t n c)) (SaidIn t e c (FlowNode n c))) Unwritten (i + 1) j y → SomeSaid t e (ValueOf false n c) i j y
  value o free (left (both (noted {x = cs} s) q)) = let g = q b in said_is (a_value cs o free s g.node) g.fits (said_after cs g.says)
  value o free (right unwritten) = said_is (empty_value b o free) (omega arith) (node_says (says_empty (i + 1)))

  go : {j : ℕ} {y : List Token} → code t i ≡ 58 → Then (Here (λ i. ns-plain-safe c (code t i) ≡ false)) (Either (Then (Noted (Separate t n c)) (SaidIn t e c (FlowNode n c))) Unwritten) (i + 1) j y
      → SomeSaid t e (ValueOf false n c) i j y
  go o (both (here f) q) = value o (sym (plain_safe_is c (code t (i + 1))) ∙ f) q

pub adjacent_value_said : {t : List ℕ} {e : ℕ} {n : ℤ} {c : Ctx} {i j : ℕ} {y : List Token} → is_block c ≡ false
    → Then (Character t no_tokens (x 58)) (Either (Then (Perhaps (Noted (Separate t n c))) (SaidIn t e c (FlowNode n c))) Unwritten) i j y → SomeSaid t e (ValueOf true n c) i j y
adjacent_value_said {t} {e} {n} {c} {i} {j} b d = let f = signed (omega arith) d in go f.sign f.rest where
  value : {j k : ℕ} {v w : List Token} → code t i ≡ 58 → Noted (MaySeparate t n c) (i + 1) k v → SaidIn t e c (FlowNode n c) k j w → SomeSaid t e (ValueOf true n c) i j (v ++ w)
  value o (noted {x = cs} s) q = let g = q b in said_is (a_value cs o tt s g.node) g.fits (said_after cs g.says)

  go : {j : ℕ} {y : List Token} → code t i ≡ 58 → Either (Then (Perhaps (Noted (Separate t n c))) (SaidIn t e c (FlowNode n c))) Unwritten (i + 1) j y → SomeSaid t e (ValueOf true n c) i j y
  go o (left (both s q)) = value o (may_noted s) q
  go o (right unwritten) = said_is (empty_value b o tt) (omega arith) (node_says (says_empty (i + 1)))

-- [151] to [153]
pub keyed_pair_said : {t : List ℕ} {e : ℕ} {json : Bool} {n : ℤ} {c : Ctx} {i j : ℕ} {y : List Token} → is_block c ≡ false
    → Then (SaidIn t e FlowKey (KeyOf json FlowKey)) (SaidIn t e c (ValueOf json n c)) i j y → SomeSaid t e (Pair n c) i j y
keyed_pair_said {i = i} b (both {k = k} f q) =
    let g = f refl in let h = q b in let o = g.fits in let p = h.fits in said_is (a_keyed_pair g.node h.node) (omega (arith, o, p)) (said_join (said_entering i (Some k) g.says) h.says)

pub unkeyed_pair_said : {t : List ℕ} {e : ℕ} {n : ℤ} {c : Ctx} {i j : ℕ} {y : List Token} → is_block c ≡ false → Keyless t e n c i j y → SomeSaid t e (Pair n c) i j y
unkeyed_pair_said {i = i} b (keyless q) = let g = q b in said_is (an_unkeyed_pair g.node) g.fits (said_join (said_entering i (Some i) (node_says (says_empty i))) g.says)

-- [154] and [155]
pub key_said : {t : List ℕ} {e : ℕ} {json : Bool} {c : Ctx} {i j : ℕ} {y : List Token} → is_block c ≡ false
    → Then (SaidIn t e c (NodeOf json (pos 0) c)) (Perhaps (Quiet (SeparateInLine t))) i j y → length (chars (take (j - i) (drop i t))) ≤ 1024 → SomeSaid t e (KeyOf json c) i j y
unfolding characters_between
key_said b (both {x = u} f missing) l = let g = f b in said_is (a_key g.node unseparated_in_line l) g.fits (says_same (sym (append-nil u)) g.says)
key_said b (both {x = u} f (given (puts s))) l = let g = f b in said_is (a_key g.node (separated_in_line s) l) g.fits (says_same (sym (append-nil u)) g.says)

-- [159] to [161]
properties_only : {t : List ℕ} {e : ℕ} {n : ℤ} {c : Ctx} {i j : ℕ} {u : List Token} → is_block c ≡ false → Propped t n c i j u → SomeSaid t e (NodeOf false n c) i j (u ++ a_scalar Plain [] ∷ [])
properties_only {i = i} {j = j} {u = u} b p =
    let same : p.value.comments ++ [] ≡ p.value.comments = append-nil p.value.comments in
    said_is (properties_alone b p.derived) (omega arith)
    (subst (λ z. Says (u ++ a_scalar Plain [] ∷ []) (meaning_after z (with_props p.value.props p.value.tag_offset i j (empty_node j)))) same (says_with p.value [] i j p.says (says_empty j)))

plain_with : {t : List ℕ} {e : ℕ} {n : ℤ} {c : Ctx} {i g k j : ℕ} {u v w : List Token} → Propped t n c i g u → Noted (Separate t n c) g k v → PlainSaid t n c k j w → SomeSaid t e (NodeOf false n c) i j (u ++ (v ++ w))
plain_with {i = i} {g = g} {k = k} {j = j} p (noted {x = cs} s) (plain_said {u = z} d) = said_is (a_plain_with p.derived s d) (omega arith) (says_with p.value cs i g p.says (says_text Plain z k j))

json_with : {t : List ℕ} {e : ℕ} {n : ℤ} {c : Ctx} {i g k j : ℕ} {u v w : List Token} → Propped t n c i g u → Noted (Separate t n c) g k v → ContentSaid t e n c k j w → SomeSaid t e (NodeOf true n c) i j (u ++ (v ++ w))
json_with {i = i} {g = g} p (noted {x = cs} s) d = said_is (a_json_with p.derived s d.node) d.fits (says_with p.value cs i g p.says d.says)

pub yaml_node_said : {t : List ℕ} {e : ℕ} {n : ℤ} {c : Ctx} {i j : ℕ} {y : List Token} → is_block c ≡ false
    → Either (Aliased t) (Either (PlainSaid t n c) (Then (Propped t n c) (Either (Then (Noted (Separate t n c)) (PlainSaid t n c)) Unwritten))) i j y → SomeSaid t e (NodeOf false n c) i j y
yaml_node_said {i = i} {j = j} b (left (aliased {name = name} a)) = said_is (an_alias b a) (omega arith) (says_alias name i j)
yaml_node_said {i = i} {j = j} b (right (left (plain_said {u = u} d))) = said_is (a_plain d) (omega arith) (node_says (says_text Plain u i j))
yaml_node_said b (right (right (both p (left (both s d))))) = plain_with p s d
yaml_node_said b (right (right (both p (right unwritten)))) = properties_only b p

pub json_node_said : {t : List ℕ} {e : ℕ} {n : ℤ} {c : Ctx} {i j : ℕ} {y : List Token} → is_block c ≡ false
    → Then (Perhaps (Then (Propped t n c) (Noted (Separate t n c)))) (ContentIn t e n c) i j y → SomeSaid t e (NodeOf true n c) i j y
json_node_said b (both missing q) = let g = q b in said_is (a_json g.node) g.fits (node_says g.says)
json_node_said {t} {e} {n} {c} {i} {j} b (both {y = w} (given (both {x = u} {y = v} p s)) q) = subst (λ z. SomeSaid t e (NodeOf true n c) i j z) (sym (append_assoc u v w)) (json_with p s (q b))

abbrev pub FlowContent : List ℕ → ℕ → ℤ → Ctx → ℕ → ℕ → List Token → Type 0
FlowContent t e n c = Either (PlainSaid t n c) (ContentIn t e n c)

as_node : {t : List ℕ} {e : ℕ} {json : Bool} {n : ℤ} {c : Ctx} {i j : ℕ} {y : List Token} → SomeSaid t e (NodeOf json n c) i j y → SomeSaid t e (FlowNode n c) i j y
as_node g = said_is (flow_node g.node) g.fits g.says

pub flow_node_said : {t : List ℕ} {e : ℕ} {n : ℤ} {c : Ctx} {i j : ℕ} {y : List Token} → is_block c ≡ false
    → Either (Aliased t) (Either (FlowContent t e n c) (Then (Propped t n c) (Either (Then (Noted (Separate t n c)) (FlowContent t e n c)) Unwritten))) i j y → SomeSaid t e (FlowNode n c) i j y
flow_node_said b (left a) = as_node (yaml_node_said b (left a))
flow_node_said b (right (left (left d))) = as_node (yaml_node_said b (right (left d)))
flow_node_said b (right (left (right q))) = let g = q b in as_node (said_is (a_json g.node) g.fits (node_says g.says))
flow_node_said b (right (right (both p (left (both s (left d)))))) = as_node (plain_with p s d)
flow_node_said b (right (right (both p (left (both s (right q)))))) = as_node (json_with p s (q b))
flow_node_said b (right (right (both p (right unwritten)))) = as_node (properties_only b p)

-- a single pair is a collection with less room for open collections
pub data PairIn (t : List ℕ) (e : ℕ) (n : ℤ) (c : Ctx) (i j : ℕ) : List Token → Type 0 where
  pair_in : {r : ℕ} {y : List Token} → r < e → SaidIn t r c (Pair n c) i j y → PairIn t e n c i j (starts false true ∷ (y ++ ends false ∷ []))

pub seq_entry_said : {t : List ℕ} {e : ℕ} {n : ℤ} {c : Ctx} {i j : ℕ} {y : List Token} → is_block c ≡ false → Either (PairIn t e n c) (SaidIn t e c (FlowNode n c)) i j y → SomeSaid t e (Entry true n c) i j y
seq_entry_said {i = i} b (left (pair_in w q)) =
    let g = q b in
    let f = g.fits in
    said_is (a_pair_entry g.node) (omega (arith, f, w)) (said_entering i None (node_says (says_collection false true i g.meaning.finish g.says)))
seq_entry_said {i = i} b (right q) = let g = q b in said_is (a_node_entry g.node) g.fits (said_entering i None g.says)
