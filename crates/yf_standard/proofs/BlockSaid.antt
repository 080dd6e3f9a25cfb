-- Block nodes (8.2): their tokens state what the relation `Derives` of `Grammar` means.
use Rattle.std.proofs.Common.{◌≡◌, ℕ, ◌+◌, ◌<◌, ℤ, pos, ◌+ℤ◌, ◌-ℤ◌, ◌≤ℤ◌, Bool, true, false, List, [], ◌∷◌, ◌++◌, Some, None, refl, sym, ap, ◌∙◌, subst, append_assoc, append-nil, arith}
use Rattle.std.proofs.lemmas.Int.{ints}
use Rattle.yf_chars.specs.declared.context.Ctx.{Ctx}
use Rattle.yf_chars.specs.declared.context.Ctx.TheVariants.{BlockOut, BlockIn, FlowOut, BlockKey}
use Rattle.yf_chars.specs.Text.{code}
use Rattle.yf_chars.specs.Class.{is_white_or_end}
use Rattle.yf_chars.specs.Chain.{Chain}
use Rattle.yf_chars.specs.Chain.Chain.{done, step}
use Rattle.yf_lines.specs.Basic.{is_block, Spaces, Indent}
use Rattle.yf_lines.specs.Basic.Indent.{exactly}
use Rattle.yf_comments.specs.Comments.{Separate, LineEnd}
use Rattle.yf_grammar.specs.Productions.BlockScalar.{BlockScalar}
use Rattle.yf_grammar.specs.Productions.Meaning.{Meaning, with_props, collection}
use Rattle.yf_grammar.specs.Productions.Grammar.{ColonLine, least_column}
use Rattle.yf_grammar.specs.Productions.Grammar.Production.{FlowNode, KeyOf, BlockNode, BlockEntries, BlockEntry, BlockIndented, BlockValue}
use Rattle.yf_grammar.specs.Productions.Grammar.Derives.{a_block_scalar, a_block_scalar_with, a_block_collection, a_block_collection_with, flow_in_block, a_last_entry, an_entry_before, a_dash_entry, an_explicit_entry_with, an_explicit_key_alone, a_keyed_entry, an_unkeyed_entry, a_block_value, an_empty_block_value, a_compact_collection, an_indented_node, nothing_indented}
use Rattle.yf_standard.specs.Characters.{x, ns-char}
use Rattle.yf_standard.specs.Productions.{plus}
use Rattle.yf_standard.specs.Rules.{ValueLine}
use Rattle.yf_standard.specs.Tokens.{Token, notes, no_tokens}
use Rattle.yf_standard.specs.Tokens.Token.{starts, ends}
use Rattle.yf_standard.proofs.Meant.{Then, Either, Perhaps, Several, Here, Character}
use Rattle.yf_standard.proofs.Meant.Then.{both}
use Rattle.yf_standard.proofs.Meant.Either.{left, right}
use Rattle.yf_standard.proofs.Meant.Perhaps.{missing, given}
use Rattle.yf_standard.proofs.Meant.Several.{several}
use Rattle.yf_standard.proofs.Meant.Here.{here}
use Rattle.yf_standard.proofs.BasicsMeant.{Quiet}
use Rattle.yf_standard.proofs.BasicsMeant.Puts.{puts}
use Rattle.yf_standard.proofs.CommentsMeant.{Noted}
use Rattle.yf_standard.proofs.CommentsMeant.Noted.{noted}
use Rattle.yf_standard.proofs.Sets.{ns_char_is}
use Rattle.yf_standard.proofs.SaidParts.{Says, SaysNode, says_same, said_after, said_noting, said_join, said_entering, node_says, says_collection, says_empty, says_with, after_thrice}
use Rattle.yf_standard.proofs.FlowSaid.{SomeSaid, said_is, SaidIn, Propped, Unwritten, signed}
use Rattle.yf_standard.proofs.FlowSaid.Unwritten.{unwritten}
use Rattle.yf_lines.proofs.FoldLemmas.{indent_width}

-- at a column, if n is one
abbrev pub EntryIs : List ℕ → ℕ → Bool → ℤ → ℕ → ℕ → List Token → Type 0
EntryIs t e s n i j y = (m : ℕ) → n ≡ pos m → SomeSaid t e (BlockEntry s m) i j y

abbrev pub IndentedIs : List ℕ → ℕ → ℤ → Ctx → ℕ → ℕ → List Token → Type 0
IndentedIs t e n c i j y = (m : ℕ) → n ≡ pos m → SomeSaid t e (BlockIndented m c) i j y

abbrev pub ValueIs : List ℕ → ℕ → ℤ → ℕ → ℕ → List Token → Type 0
ValueIs t e n i j y = (m : ℕ) → n ≡ pos m → SomeSaid t e (BlockValue m) i j y

abbrev pub BlockIs : List ℕ → ℕ → ℤ → Ctx → ℕ → ℕ → List Token → Type 0
BlockIs t e n c i j y = is_block c ≡ true → SomeSaid t e (BlockNode n c) i j y

-- entries after the first: s-indent(n) and an entry
entries_from : {t : List ℕ} {e : ℕ} {s : Bool} {n : ℤ} {i k j : ℕ} {u v : List Token} (m : ℕ) → n ≡ pos m → EntryIs t e s n i k u → Chain (Then (Quiet (Indent t n)) (EntryIs t e s n)) k j v
    → SomeSaid t e (BlockEntries s m) i j (u ++ v)
entries_from {u = u} m q f done = let g = f m q in said_is (a_last_entry g.node) g.fits (says_same (sym (append-nil u)) g.says)
entries_from {t} {e} {s} {n} {i} {k} {j} {u} m q f (step {y = z} (both {y = w} (puts d) h) r) = go d (f m q) (entries_from m q h r) where
  go : {l : ℕ} → Indent t n k l → SomeSaid t e (BlockEntry s m) i k u → SomeSaid t e (BlockEntries s m) l j (w ++ z) → SomeSaid t e (BlockEntries s m) i j (u ++ (w ++ z))
  go (exactly p o sp) g rest =
      let same : p ≡ m = indent_width (sym o ∙ q) in
      let a : Spaces t k m = subst (λ z. Spaces t k z) same sp in
      let v : SomeSaid t e (BlockEntries s m) (k + m) j (w ++ z) = subst (λ l. SomeSaid t e (BlockEntries s m) (k + l) j (w ++ z)) same rest in
      let b = g.fits in let c = v.fits in said_is (an_entry_before g.node a v.node) (omega (arith, b, c)) (said_join g.says v.says)

-- [186] and [195]: a collection with less room for open collections
pub data CompactIs (t : List ℕ) (e : ℕ) (s : Bool) (n : ℤ) (i j : ℕ) : List Token → Type 0 where
  compact_is : {r : ℕ} {y : List Token} → r < e → ((m : ℕ) → n ≡ pos m → SomeSaid t r (BlockEntries s m) i j y) → CompactIs t e s n i j (starts s false ∷ (y ++ ends s ∷ []))

pub compact_said : {t : List ℕ} {e r : ℕ} {s : Bool} {n : ℤ} {i j : ℕ} {y : List Token} → r < e → Then (EntryIs t r s n) (Chain (Then (Quiet (Indent t n)) (EntryIs t r s n))) i j y
    → CompactIs t e s n i j (starts s false ∷ (y ++ ends s ∷ []))
compact_said w (both f c) = compact_is w (λ m q. entries_from m q f c)

-- [183] and [187]: entries at one column, n + 1 or more, the first after its indentation
pub record ColumnFrom (t : List ℕ) (e : ℕ) (s : Bool) (low : ℤ) (i j : ℕ) (y : List Token) : Type 0 where
  pub column : ℕ
  pub spaces : Spaces t i column
  pub deep : low ≤ℤ pos column
  pub entries : SomeSaid t e (BlockEntries s column) (i + column) j y

pub data ColumnIs (t : List ℕ) (e : ℕ) (s : Bool) (low : ℤ) (i j : ℕ) : List Token → Type 0 where
  column_is : {r : ℕ} {y : List Token} → r < e → ColumnFrom t r s low i j y → ColumnIs t e s low i j (starts s false ∷ (y ++ ends s ∷ []))

pub column_said : {t : List ℕ} {e r : ℕ} {s : Bool} (n : ℤ) {i j : ℕ} {y : List Token} → r < e
    → (m : ℕ) × Several (Then (Quiet (Indent t (plus n (1 + m)))) (EntryIs t r s (plus n (1 + m)))) i j y → ColumnIs t e s (n +ℤ pos 1) i j (starts s false ∷ (y ++ ends s ∷ []))
column_said {t} {e} {r} {s} n {i} {j} w d = column_is w (parts d.1) where
  parts : {y : List Token} → Several (Then (Quiet (Indent t (plus n (1 + d.0)))) (EntryIs t r s (plus n (1 + d.0)))) i j y → ColumnFrom t r s (n +ℤ pos 1) i j y
  parts (several (both (puts a) f) c) = go a f c where
    go : {h k : ℕ} {u v : List Token} → Indent t (plus n (1 + d.0)) i h → EntryIs t r s (plus n (1 + d.0)) h k u
        → Chain (Then (Quiet (Indent t (plus n (1 + d.0)))) (EntryIs t r s (plus n (1 + d.0)))) k j v → ColumnFrom t r s (n +ℤ pos 1) i j (u ++ v)
    go (exactly p q sp) f c = record { column = p; spaces = sp; deep = omega (arith, ints, q); entries = entries_from p q f c }

-- [184]
pub dash_said : {t : List ℕ} {e : ℕ} {n : ℤ} {i j : ℕ} {y : List Token} → Then (Character t no_tokens (x 45)) (Then (Here (λ i. ns-char (code t i) ≡ false)) (IndentedIs t e n BlockIn)) i j y → EntryIs t e true n i j y
dash_said {t} {e} {n} {i} {j} d m q = let f = signed (omega arith) d in go f.sign f.rest where
  go : {y : List Token} → code t i ≡ 45 → Then (Here (λ i. ns-char (code t i) ≡ false)) (IndentedIs t e n BlockIn) (i + 1) j y → SomeSaid t e (BlockEntry true m) i j y
  go o (both (here f) g) = let h = g m q in said_is (a_dash_entry o (sym (ns_char_is (code t (i + 1))) ∙ f) h.node) h.fits (said_entering i None h.says)

-- [185]
pub indented_said : {t : List ℕ} {e : ℕ} {n : ℤ} {c : Ctx} {i j : ℕ} {y : List Token} → is_block c ≡ true
    → Either (λ i j y. (m : ℕ) × Then (Quiet (Indent t (pos m))) (Either (CompactIs t e true (plus n (1 + m))) (CompactIs t e false (plus n (1 + m)))) i j y)
    (Either (BlockIs t e n c) (Then Unwritten (Noted (LineEnd t)))) i j y → IndentedIs t e n c i j y
indented_said {t} {e} {n} {c} {i} {j} b (left d) m q = parts d.1 where
  column : plus n (1 + d.0) ≡ pos (m + 1 + d.0)
  column = omega (arith, ints, q)

  compact : (s : Bool) {k : ℕ} {y : List Token} → Indent t (pos d.0) i k → CompactIs t e s (plus n (1 + d.0)) k j y → SomeSaid t e (BlockIndented m c) i j y
  compact s {y = y} (exactly p o sp) (compact_is {r = r} {y = z} w f) =
      let same : p ≡ d.0 = sym (indent_width o) in
      let a : Spaces t i d.0 = subst (λ z. Spaces t i z) same sp in
      let v : SomeSaid t r (BlockEntries s (m + 1 + d.0)) (i + d.0) j z = subst (λ l. SomeSaid t r (BlockEntries s (m + 1 + d.0)) (i + l) j z) same (f (m + 1 + d.0) column) in
      let g = v.fits in said_is (a_compact_collection b a v.node) (omega (arith, g, w)) (node_says (says_collection s false (i + d.0) v.meaning.finish v.says))

  parts : {y : List Token} → Then (Quiet (Indent t (pos d.0))) (Either (CompactIs t e true (plus n (1 + d.0))) (CompactIs t e false (plus n (1 + d.0)))) i j y → SomeSaid t e (BlockIndented m c) i j y
  parts (both (puts a) (left f)) = compact true a f
  parts (both (puts a) (right f)) = compact false a f
indented_said {t} {e} {n} {c} {i} {j} {y} b (right (left f)) m q =
    let g : SomeSaid t e (BlockNode (pos m) c) i j y = subst (λ z. SomeSaid t e (BlockNode z c) i j y) q (f b) in said_is (an_indented_node g.node) g.fits g.says
indented_said {i = i} b (right (right (both unwritten (noted {x = cs} l)))) m q = said_is (nothing_indented b l) (omega arith) (said_noting (node_says (says_empty i)) cs)

-- [190] and [191]
pub record QuestionIs (t : List ℕ) (e m i j : ℕ) (y : List Token) : Type 0 where
  pub sign : code t i ≡ 63
  pub follows : is_white_or_end (code t (i + 1)) ≡ true
  pub key : SomeSaid t e (BlockIndented m BlockOut) (i + 1) j y

pub question_said : {t : List ℕ} {e : ℕ} {n : ℤ} {i j : ℕ} {y : List Token} → Then (Character t no_tokens (x 63)) (Then (Here (λ i. is_white_or_end (code t i) ≡ true)) (IndentedIs t e n BlockOut)) i j y
    → (m : ℕ) → n ≡ pos m → QuestionIs t e m i j y
question_said {t} {e} {n} {i} {j} d m q = let f = signed (omega arith) d in go f.sign f.rest where
  go : {y : List Token} → code t i ≡ 63 → Then (Here (λ i. is_white_or_end (code t i) ≡ true)) (IndentedIs t e n BlockOut) (i + 1) j y → QuestionIs t e m i j y
  go o (both (here f) g) = record { sign = o; follows = f; key = g m q }

pub record ColonIs (t : List ℕ) (e m i j : ℕ) (y : List Token) : Type 0 where
  pub line : ColonLine t m i
  pub value : SomeSaid t e (BlockIndented m BlockOut) (i + m + 1) j y

pub colon_said : {t : List ℕ} {e : ℕ} {n : ℤ} {i j : ℕ} {y : List Token}
    → Then (Quiet (Indent t n)) (Then (Character t no_tokens (x 58)) (Then (Here (λ i. is_white_or_end (code t i) ≡ true)) (IndentedIs t e n BlockOut))) i j y → (m : ℕ) → n ≡ pos m → ColonIs t e m i j y
colon_said {t} {e} {n} {i} {j} (both (puts a) d) m q = let f = signed (omega arith) d in go a f.sign f.rest where
  go : {h : ℕ} {y : List Token} → Indent t n i h → code t h ≡ 58 → Then (Here (λ i. is_white_or_end (code t i) ≡ true)) (IndentedIs t e n BlockOut) (h + 1) j y → ColonIs t e m i j y
  go {y = y} (exactly p o sp) s (both (here f) g) =
      let same : p ≡ m = indent_width (sym o ∙ q) in record {
        line = record {
          indent = subst (λ z. Spaces t i z) same sp;
          colon = subst (λ z. code t (i + z) ≡ 58) same s;
          follows = subst (λ z. is_white_or_end (code t (i + z + 1)) ≡ true) same f;
        };
        value = subst (λ z. SomeSaid t e (BlockIndented m BlockOut) (i + z + 1) j y) same (g m q);
      }

-- [189]
pub explicit_entry_said : {t : List ℕ} {e : ℕ} {n : ℤ} {i j : ℕ} {y : List Token}
    → Then (λ i j y. (m : ℕ) → n ≡ pos m → QuestionIs t e m i j y) (Either (λ i j y. (m : ℕ) → n ≡ pos m → ColonIs t e m i j y) (Then (Here (λ i. ValueLine t n i → ⊥)) Unwritten)) i j y
    → EntryIs t e false n i j y
explicit_entry_said {i = i} (both {k = k} f (left g)) m q =
    let a = f m q in
    let b = g m q in
    let c = a.key.fits in
    let d = b.value.fits in
    said_is (an_explicit_entry_with a.sign a.follows a.key.node b.line b.value.node) (omega (arith, c, d)) (said_join (said_entering i (Some (k + m)) a.key.says) b.value.says)
explicit_entry_said {i = i} (both f (right (both (here o) unwritten))) m q =
    let a = f m q in
    said_is (an_explicit_key_alone a.sign a.follows a.key.node (λ l. o (record { m = m; column = q; indent = l.indent; colon = l.colon; follows = l.follows }))) a.key.fits
    (said_join (said_entering i None a.key.says) (node_says (says_empty a.key.meaning.finish)))

-- [193] and [192]
abbrev pub KeyIs : List ℕ → ℕ → ℕ → ℕ → List Token → Type 0
KeyIs t e = Either (SaidIn t e BlockKey (KeyOf true BlockKey)) (SaidIn t e BlockKey (KeyOf false BlockKey))

pub implicit_entry_said : {t : List ℕ} {e : ℕ} {n : ℤ} {i j : ℕ} {y : List Token} → Then (Either (KeyIs t e) Unwritten) (ValueIs t e n) i j y → EntryIs t e false n i j y
implicit_entry_said {i = i} (both {k = k} (left (left f)) g) m q =
    let a = f refl in let b = g m q in let c = a.fits in let d = b.fits in said_is (a_keyed_entry a.node b.node) (omega (arith, c, d)) (said_join (said_entering i (Some k) a.says) b.says)
implicit_entry_said {i = i} (both {k = k} (left (right f)) g) m q =
    let a = f refl in let b = g m q in let c = a.fits in let d = b.fits in said_is (a_keyed_entry a.node b.node) (omega (arith, c, d)) (said_join (said_entering i (Some k) a.says) b.says)
implicit_entry_said {i = i} (both (right unwritten) g) m q = let b = g m q in said_is (an_unkeyed_entry b.node) b.fits (said_join (said_entering i (Some i) (node_says (says_empty i))) b.says)

-- [194]
pub value_said : {t : List ℕ} {e : ℕ} {n : ℤ} {i j : ℕ} {y : List Token} → Then (Character t no_tokens (x 58)) (Either (BlockIs t e n BlockOut) (Then Unwritten (Noted (LineEnd t)))) i j y → ValueIs t e n i j y
value_said {t} {e} {n} {i} {j} d m q = let f = signed (omega arith) d in go f.sign f.rest where
  go : {y : List Token} → code t i ≡ 58 → Either (BlockIs t e n BlockOut) (Then Unwritten (Noted (LineEnd t))) (i + 1) j y → SomeSaid t e (BlockValue m) i j y
  go {y} o (left f) = let g : SomeSaid t e (BlockNode (pos m) BlockOut) (i + 1) j y = subst (λ z. SomeSaid t e (BlockNode z BlockOut) (i + 1) j y) q (f refl) in said_is (a_block_value o g.node) g.fits g.says
  go o (right (both unwritten (noted {x = cs} l))) = said_is (an_empty_block_value o l) (omega arith) (said_noting (node_says (says_empty (i + 1))) cs)

-- [197]
pub flow_in_block_said : {t : List ℕ} {e : ℕ} {n : ℤ} {c : Ctx} {i j : ℕ} {y : List Token} → is_block c ≡ true
    → Then (Noted (Separate t (n +ℤ pos 1) FlowOut)) (Then (SaidIn t e FlowOut (FlowNode (n +ℤ pos 1) FlowOut)) (Noted (LineEnd t))) i j y → SomeSaid t e (BlockNode n c) i j y
flow_in_block_said b (both (noted {x = cs} s) (both f (noted {x = ds} l))) = let g = f refl in said_is (flow_in_block b s g.node l) g.fits (said_after cs (said_noting g.says ds))

-- [199]
pub record ScalarSaid (t : List ℕ) (n : ℤ) (i j : ℕ) (y : List Token) : Type 0 where
  pub value : Meaning
  pub derived : BlockScalar t n i j value
  pub says : SaysNode y value

pub block_scalar_said : {t : List ℕ} {e : ℕ} {n : ℤ} {c : Ctx} {i j : ℕ} {y : List Token} → is_block c ≡ true
    → Then (Noted (Separate t (n +ℤ pos 1) c)) (Then (Perhaps (Then (Propped t (n +ℤ pos 1) c) (Noted (Separate t (n +ℤ pos 1) c)))) (Either (ScalarSaid t n) (ScalarSaid t n))) i j y
    → SomeSaid t e (BlockNode n c) i j y
block_scalar_said {t} {e} {n} {c} {i} {j} b (both (noted {x = cs} s) (both {k = k} {y = w} d q)) = go s d (either q) where
  either : Either (ScalarSaid t n) (ScalarSaid t n) k j w → ScalarSaid t n k j w
  either (left a) = a
  either (right a) = a

  go : {f : ℕ} {v : List Token} → Separate t (n +ℤ pos 1) c i f cs → Perhaps (Then (Propped t (n +ℤ pos 1) c) (Noted (Separate t (n +ℤ pos 1) c))) f k v → ScalarSaid t n k j w → SomeSaid t e (BlockNode n c) i j (notes cs ++ (v ++ w))
  go s missing a = said_is (a_block_scalar b s a.derived) (omega arith) (said_after cs (node_says a.says))
  go {f} s (given (both {k = g} {x = u} p (noted {x = ds} r))) a =
      said_is (a_block_scalar_with b s p.derived r a.derived) (omega arith)
      (subst (λ v. Says (notes cs ++ ((u ++ notes ds) ++ w)) v) (after_thrice cs p.value.comments ds (with_props p.value.props p.value.tag_offset f g a.value))
      (says_same (ap (λ z. notes cs ++ z) (sym (append_assoc u (notes ds) w))) (said_after cs (says_with p.value ds f g p.says a.says))))

-- [200] and [201]
pub seq_space_said : {t : List ℕ} {e : ℕ} {n : ℤ} {i j : ℕ} {y : List Token} → ColumnIs t e true ((n -ℤ pos 1) +ℤ pos 1) i j y → ColumnIs t e true n i j y
seq_space_said {n = n} (column_is w d) =
    let low : n ≤ℤ pos d.column = let l = d.deep in omega (arith, ints, l) in column_is w (record { column = d.column; spaces = d.spaces; deep = low; entries = d.entries })

pub collection_said : {t : List ℕ} {e : ℕ} {n : ℤ} {c : Ctx} {i j : ℕ} {y : List Token} → is_block c ≡ true
    → Then (Perhaps (Then (Noted (Separate t (n +ℤ pos 1) c)) (Propped t (n +ℤ pos 1) c)))
    (Then (Noted (LineEnd t)) (Either (λ i j y. is_block c ≡ true → ColumnIs t e true (least_column true n c) i j y) (ColumnIs t e false (n +ℤ pos 1)))) i j y
    → SomeSaid t e (BlockNode n c) i j y
collection_said {t} {e} {n} {c} {i} {j} b (both d (both {k = k} (noted {x = ds} l) q)) = kinds l d q where
  built : (s : Bool) {g : ℕ} {v w : List Token} → LineEnd t g k ds → Perhaps (Then (Noted (Separate t (n +ℤ pos 1) c)) (Propped t (n +ℤ pos 1) c)) i g v → ColumnIs t e s (least_column s n c) k j w → SomeSaid t e (BlockNode n c) i j (v ++ (notes ds ++ w))
  built s l missing (column_is {y = z} w y) =
      let a = y.entries in
      let f = a.fits in
      said_is (a_block_collection b l y.spaces y.deep a.node) (omega (arith, f, w)) (said_after ds (node_says (says_collection s false (k + y.column) a.meaning.finish a.says)))
  built s {g = g} l (given (both {k = h} {y = u} (noted {x = cs} r) p)) (column_is {y = z} w y) =
      let a = y.entries in
      let f = a.fits in
      let m = says_collection s false (k + y.column) a.meaning.finish a.says in
      said_is (a_block_collection_with b r p.derived l y.spaces y.deep a.node) (omega (arith, f, w))
      (subst (λ v. Says ((notes cs ++ u) ++ (notes ds ++ (starts s false ∷ (z ++ ends s ∷ [])))) v) (after_thrice cs p.value.comments ds (with_props p.value.props p.value.tag_offset h g (collection s false (k + y.column) a.meaning.finish a.meaning)))
      (says_same (sym (append_assoc (notes cs) u (notes ds ++ (starts s false ∷ (z ++ ends s ∷ []))))) (said_after cs (says_with p.value ds h g p.says m))))

  kinds : {g : ℕ} {v w : List Token} → LineEnd t g k ds → Perhaps (Then (Noted (Separate t (n +ℤ pos 1) c)) (Propped t (n +ℤ pos 1) c)) i g v
      → Either (λ i j y. is_block c ≡ true → ColumnIs t e true (least_column true n c) i j y) (ColumnIs t e false (n +ℤ pos 1)) k j w → SomeSaid t e (BlockNode n c) i j (v ++ (notes ds ++ w))
  kinds l d (left f) = built true l d (f b)
  kinds l d (right f) = built false l d f
