-- The openers ahead while a flow collection is read.
use Rattle.std.proofs.Common.{◌≡◌, ℕ, zero, suc, max, ◌+◌, ◌<◌, ◌≤◌, ℤ, true, cond, List, [], ◌∷◌, ◌++◌, length, Option, Some, drop, get_or, refl, ap, ◌∙◌, arith}
use Rattle.std.proofs.lemmas.List.Elements.{All-weaker, All-same, All-push, All-pop}
use Rattle.std.proofs.lemmas.List.Sums.{sum_by-cons, sum_by-drop_more}
use Rattle.std.specs.List.{All}
use Rattle.std.specs.Str.{IsUtf8}
use Rattle.yf_chars.specs.declared.context.Ctx.{Ctx}
use Rattle.yf_chars.specs.Text.{code}
use Rattle.yf_chars.proofs.TextLemmas.{byte_from_code}
use Rattle.yf_events.specs.declared.event.Entry.{Entry}
use Rattle.yf_events.specs.declared.part.Part.{Part}
use Rattle.yf_grammar.specs.FlowReader.FlowContinuations.{Before, NodeOver, bare_there, properties_there}
use Rattle.yf_props.proofs.SeparationEnds.{separate_forward}
use Rattle.yf_grammar.specs.Refusal.{is_opener, openers}
use Rattle.yf_flow.specs.declared.frame.Frame.{Frame}
use Rattle.yf_flow.specs.declared.frame.CollectionKind.{CollectionKind}
use Rattle.yf_flow.specs.declared.frame.CollectionKind.TheVariants.{Sequence, Mapping, Pair}
use Rattle.yf_flow.specs.NodeStarts.{IsOpening}
use Rattle.yf_flow.specs.declared.frame.Node.{Node}
use Rattle.yf_flow.specs.declared.node.Begun.{Begun}
use Rattle.yf_flow.specs.declared.node.Begun.TheVariants.{Leaf, Opened, Nothing, TooDeep}
use Rattle.yf_flow.specs.Machine.{BegunAt}
use Rattle.yf_flow.specs.NodeParts.{NodeLeaf, NodeOpened, NodeFull, NodeBegun}
use Rattle.yf_flow.specs.Depth.{openers_from, DepthCounted, AllCounted, NodeCounted, BegunCounted}
use Rattle.yf_props.proofs.NameOrder.{properties_forward}

-- further on there are at most as many
openers_drop : (t : List ℕ) (i j : ℕ) → i ≤ j → openers (drop j t) ≤ openers (drop i t)
openers_drop [] zero zero l = omega arith
openers_drop [] zero (suc j) l = omega arith
openers_drop [] (suc i) zero l = omega arith
openers_drop [] (suc i) (suc j) l = omega arith
openers_drop (x ∷ t) zero zero l = omega arith
openers_drop (x ∷ t) zero (suc j) l =
    let r = openers_drop t zero j (omega arith) in
    let s = sum_by-cons (λ y. cond (is_opener y) 1 0) x t in
    omega arith
openers_drop (x ∷ t) (suc i) zero l = absurd (omega arith)
openers_drop (x ∷ t) (suc i) (suc j) l = openers_drop t i j (omega arith)

pub openers_later : (t : List ℕ) (i j : ℕ) → i ≤ j → openers_from t j ≤ openers_from t i
unfolding openers_from
openers_later t i j l = openers_drop t i j l

-- the opener at the offset is one of them
one_more : (n : ℕ) → 1 + n ≡ suc n
one_more n = omega arith

opener_byte : (t : List ℕ) (i : ℕ) → i < length t → is_opener (get_or t i 0) ≡ true → openers (drop i t) ≡ suc (openers (drop (i + 1) t))
opener_byte t i l e =
    sum_by-drop_more (λ x. cond (is_opener x) 1 0) t i 0 l ∙ ap (λ b. cond b 1 0 + openers (drop (i + 1) t)) e ∙ one_more (openers (drop (i + 1) t))

opener_at : {t : List ℕ} (i x : ℕ) → IsUtf8 t → x < 128 → is_opener x ≡ true → code t i ≡ x → openers_from t i ≡ suc (openers_from t (i + 1))
unfolding openers_from
opener_at {t} i x u l e c =
    let b = byte_from_code t i u (omega (arith, c)) in
    opener_byte t i b.0 (ap is_opener (b.1 ∙ c) ∙ e)

pub dash_opens : {t : List ℕ} (i : ℕ) → IsUtf8 t → code t i ≡ 45 → openers_from t i ≡ suc (openers_from t (i + 1))
dash_opens i u c = opener_at i 45 u (omega arith) refl c

pub question_opens : {t : List ℕ} (i : ℕ) → IsUtf8 t → code t i ≡ 63 → openers_from t i ≡ suc (openers_from t (i + 1))
question_opens i u c = opener_at i 63 u (omega arith) refl c

pub colon_opens : {t : List ℕ} (i : ℕ) → IsUtf8 t → code t i ≡ 58 → openers_from t i ≡ suc (openers_from t (i + 1))
colon_opens i u c = opener_at i 58 u (omega arith) refl c

pub bracket_opens : {t : List ℕ} (kind : CollectionKind) (i : ℕ) → IsUtf8 t → IsOpening kind (code t i) → openers_from t i ≡ suc (openers_from t (i + 1))
bracket_opens Sequence i u c = opener_at i 91 u (omega arith) refl c
bracket_opens Mapping i u c = opener_at i 123 u (omega arith) refl c
bracket_opens Pair i u c = absurd c

-- the counts of the collections also bound those further on
module _ {t : List ℕ} {total i : ℕ} where
  one_moved : (j : ℕ) → i ≤ j → (f : Frame) → DepthCounted t total i f → DepthCounted t total j f
  one_moved j l f c = let o = openers_later t i j l in let a = c.depth in let b = c.deepest in record { depth = omega arith; deepest = omega arith }

  below_moved : (j : ℕ) (frames : List Frame) → i ≤ j → All (DepthCounted t total i) frames → All (DepthCounted t total j) frames
  below_moved j frames l a = All-weaker (DepthCounted t total i) (DepthCounted t total j) (one_moved j l) frames a

  pub moved : (j : ℕ) {frames : List Frame} {top : Frame} → i ≤ j → AllCounted t total i frames top → AllCounted t total j frames top
  moved j {frames} {top} l a = record { utf8 = a.utf8; innermost = one_moved j l top a.innermost; others = below_moved j frames l a.others }

  -- and a frame of equal depth
  pub counted_as : {frames : List Frame} {top : Frame} (o : Frame) → o.depth ≡ top.depth → o.deepest ≡ top.deepest → AllCounted t total i frames top → AllCounted t total i frames o
  counted_as o d e a = let x = a.innermost.depth in let y = a.innermost.deepest in record { utf8 = a.utf8; innermost = record { depth = omega arith; deepest = omega arith }; others = a.others }

  -- with a node in it
  pub counted_reaching : {frames : List Frame} {top : Frame} {deepest : ℕ} (o : Frame) → o.depth ≡ top.depth → o.deepest ≡ max top.deepest deepest → NodeCounted t total deepest i frames top
      → AllCounted t total i frames o
  counted_reaching o d e a =
      let x = a.collections.innermost.depth in
      let y = a.collections.innermost.deepest in
      let z = a.node in
      record { utf8 = a.collections.utf8; innermost = record { depth = omega arith; deepest = omega arith }; others = a.collections.others }

  -- a further one is opened
  pub counted_more : {frames all : List Frame} {top : Frame} (o : Frame) (j : ℕ) → all ≡ frames ++ top ∷ [] → i ≤ j → DepthCounted t total j o → AllCounted t total i frames top → AllCounted t total j all o
  counted_more {frames} {all} {top} o j e l c a = record {
    utf8 = a.utf8;
    innermost = c;
    others = All-same (DepthCounted t total j) all (frames ++ top ∷ []) e (All-push (DepthCounted t total j) frames top (below_moved j frames l a.others) (one_moved j l top a.innermost));
  }

  -- the innermost one is closed
  pub counted_less : {frames all : List Frame} {top outer : Frame} → all ≡ frames ++ outer ∷ [] → AllCounted t total i all top → NodeCounted t total top.deepest i frames outer
  counted_less {frames} {all} {top} {outer} e a =
      let b = All-pop (DepthCounted t total i) all frames (Some outer) e a.others in
      record { collections = record { utf8 = a.utf8; innermost = b.1; others = b.0 }; node = a.innermost.deepest }

-- the counts for an awaited node with its open collections
over_later : {t : List ℕ} {n : ℤ} {c : Ctx} {i k : ℕ} {b : Before} → NodeOver t n c i k b → i ≤ k
over_later (bare_there e) = omega arith
over_later (properties_there d s e) = let x = properties_forward d.derived in let y = separate_forward s.derived in omega arith

module _ {t : List ℕ} {n : ℤ} {c : Ctx} {i depth : ℕ} {entry : Option Entry} {old new : Part} (total : ℕ) where
  pub leaf_counted : {node : Node} → i ≤ node.end → depth + openers_from t i ≤ total → NodeLeaf t n c i depth entry old new node → node.deepest + openers_from t node.end ≤ total
  leaf_counted {node} l q a = let x = openers_later t i node.end l in let y = a.deepest in omega arith

  pub opened_counted : {limit : ℕ} {f : Frame} → IsUtf8 t → depth + openers_from t i ≤ total → NodeOpened t n c i depth limit entry old new f → DepthCounted t total f.entry f
  opened_counted {f = f} u q o =
      let x = openers_later t i o.content (over_later o.over) in
      let y = bracket_opens f.kind o.content u o.bracket in
      let z : openers_from t f.entry ≡ openers_from t (o.content + 1) = ap (openers_from t) o.first in
      let d = o.deep in
      let e = o.deepest in
      record { depth = omega arith; deepest = omega arith }

pub full_counted : {t : List ℕ} {n : ℤ} {c : Ctx} {i depth limit p : ℕ} (total : ℕ) → IsUtf8 t → depth + openers_from t i ≤ total → NodeFull t n c i depth limit p → limit < total
full_counted {t} {i = i} {p = p} total u q f =
    let x = openers_later t i p (over_later f.over) in
    let y = bracket_opens f.kind p u f.bracket in
    let z = f.full in
    omega arith

-- the outermost node
pub begun_counted : (t : List ℕ) (n : ℤ) (c : Ctx) (i limit : ℕ) (entry : Option Entry) (old new : Part) (m k : ℕ) (b : Begun) → IsUtf8 t → NodeBegun t n c i 0 limit entry old new b
    → BegunAt t i m k b → BegunCounted t limit (openers_from t i) b
begun_counted t n c i limit entry old new m k (Leaf node) u a p = let o = p.0.order in leaf_counted (openers_from t i) (omega arith) (omega arith) a
begun_counted t n c i limit entry old new m k (Opened f) u a p = opened_counted (openers_from t i) u (omega arith) a
begun_counted t n c i limit entry old new m k Nothing u a p = tt
begun_counted t n c i limit entry old new m k (TooDeep q) u a p = full_counted (openers_from t i) u (omega arith) a

-- a sign has been passed
pub question_passed : {t : List ℕ} (s j : ℕ) → IsUtf8 t → code t s ≡ 63 → s < j → openers_from t j < openers_from t s
question_passed {t} s j u c l = let x = question_opens s u c in let y = openers_later t (s + 1) j (omega arith) in omega arith

pub colon_passed : {t : List ℕ} (s : ℕ) → IsUtf8 t → code t s ≡ 58 → openers_from t (s + 1) < openers_from t s
colon_passed s u c = let x = colon_opens s u c in omega arith
