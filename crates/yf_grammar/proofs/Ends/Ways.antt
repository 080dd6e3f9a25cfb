-- Ways to an outcome: a test, the longest part of a leaf production, or the outcome of another task decides the next
-- step. Two ways of one form lead to one outcome.
use Rattle.std.proofs.Common.{◌≡◌, ℕ, suc, ℤ, Bool, List, Option, Some, None, refl, sym, ◌∙◌, subst, arith}
use Rattle.yf_chars.specs.declared.context.Ctx.{Ctx}
use Rattle.yf_chars.specs.Chain.{Chosen, Stuck}
use Rattle.yf_comments.specs.Comment.{CommentValue}
use Rattle.yf_grammar.specs.FlowReader.Parser.{ParsedNode, Gap}
use Rattle.yf_grammar.specs.FlowReader.Parser as Parser

-- two ways that lead to one outcome
pub record Agree (A B : Option ParsedNode → Type 0) : Type 0 where
  pub same : (o p : Option ParsedNode) → A o → B p → o ≡ p

-- the outcome is known
pub record Is (r o : Option ParsedNode) : Type 0 where
  pub known : o ≡ r

-- no outcome
abbrev pub Never : Option ParsedNode → Type 0
Never o = ⊥

-- one of two facts decides
pub data Fork (P Q : Type 0) (A B : Option ParsedNode → Type 0) (o : Option ParsedNode) : Type 0 where
  one_way : P → A o → Fork P Q A B o
  other_way : Q → B o → Fork P Q A B o

-- the longest part decides, or that no part is derived
pub data Takes {X : Type 0} (P : ℕ → X → Type 0) (A : ℕ → X → Option ParsedNode → Type 0) (B : Option ParsedNode → Type 0) (o : Option ParsedNode) : Type 0 where
  taken : (j : ℕ) (x : X) → Chosen P j x → A j x o → Takes P A B o
  not_taken : Stuck P → B o → Takes P A B o

-- a separation that may be missing
pub data Past (t : List ℕ) (n : ℤ) (c : Ctx) (i : ℕ) (A : ℕ → List CommentValue → Option ParsedNode → Type 0) (o : Option ParsedNode) : Type 0 where
  past : (k : ℕ) (cs : List CommentValue) → Gap t n c i k cs → A k cs o → Past t n c i A o

-- the outcome of another task decides
pub data Finds (R : Option ParsedNode → Type 0) (A : ParsedNode → Option ParsedNode → Type 0) (B : Option ParsedNode → Type 0) (o : Option ParsedNode) : Type 0 where
  finds : (f : ParsedNode) → R (Some f) → A f o → Finds R A B o
  finds_none : R None → B o → Finds R A B o

-- a limit decides
pub data Limited (e : ℕ) (A : ℕ → Option ParsedNode → Type 0) (B : Option ParsedNode → Type 0) (o : Option ParsedNode) : Type 0 where
  below : (d : ℕ) → e ≡ suc d → A d o → Limited e A B o
  at_zero : e ≡ 0 → B o → Limited e A B o

-- an offset decides; at most one has the property
pub data Somewhere (P : ℕ → Type 0) (A : ℕ → Option ParsedNode → Type 0) (B : Option ParsedNode → Type 0) (o : Option ParsedNode) : Type 0 where
  there : (k : ℕ) → P k → A k o → Somewhere P A B o
  nowhere : ((k : ℕ) → P k → ⊥) → B o → Somewhere P A B o

-- a flag that a fact determines decides
pub data Flagged (P : Bool → Type 0) (A : Bool → Option ParsedNode → Type 0) (o : Option ParsedNode) : Type 0 where
  flagged : (b : Bool) → P b → A b o → Flagged P A o

pub chosen_one : {X : Type 0} {P : ℕ → X → Type 0} {j k : ℕ} {x y : X} → Chosen P j x → Chosen P k y → (k ≡ j) × (y ≡ x)
chosen_one {P = P} {j} {k} {x} {y} a b =
    let l = a.longest k y b.derived in
    let m = b.longest j x a.derived in
    let e : k ≡ j = omega arith in
    (e, a.only y (subst (λ w. P w y) e b.derived))

pub gap_one : {t : List ℕ} {n : ℤ} {c : Ctx} {i j k : ℕ} {x y : List CommentValue} → Gap t n c i j x → Gap t n c i k y → (k ≡ j) × (y ≡ x)
gap_one (Parser.longest_gap a) (Parser.longest_gap b) = chosen_one a b
gap_one (Parser.longest_gap {j = j} {cs = cs} a) (Parser.no_gap b) = absurd (b.none j cs a.derived)
gap_one (Parser.no_gap a) (Parser.longest_gap {j = j} {cs = cs} b) = absurd (a.none j cs b.derived)
gap_one (Parser.no_gap a) (Parser.no_gap b) = (refl, refl)

pub is_agree : {r : Option ParsedNode} → Agree (Is r) (Is r)
is_agree = record { same = λ o p a b. a.known ∙ sym b.known }

pub never_agree : Agree Never Never
never_agree = record { same = λ o p a b. absurd a }

module _ {A B C D : Option ParsedNode → Type 0} where
  pub fork_agree : {P Q : Type 0} → (P → Q → ⊥) → Agree A C → Agree B D → Agree (Fork P Q A B) (Fork P Q C D)
  fork_agree {P} {Q} n a b = record { same = go } where
    go : (o p : Option ParsedNode) → Fork P Q A B o → Fork P Q C D p → o ≡ p
    go o p (one_way x v) (one_way y w) = a.same o p v w
    go o p (one_way x v) (other_way y w) = absurd (n x y)
    go o p (other_way x v) (one_way y w) = absurd (n y x)
    go o p (other_way x v) (other_way y w) = b.same o p v w

module _ {X : Type 0} {A C : ℕ → X → Option ParsedNode → Type 0} {B D : Option ParsedNode → Type 0} where
  pub takes_agree : (P : ℕ → X → Type 0) → ((j : ℕ) (x : X) → Agree (A j x) (C j x)) → Agree B D → Agree (Takes P A B) (Takes P C D)
  takes_agree P a b = record { same = go } where
    go : (o p : Option ParsedNode) → Takes P A B o → Takes P C D p → o ≡ p
    go o p (taken j x v r) (taken k y w s) =
        let e = chosen_one v w in
        let s' : C j y p = subst (λ m. C m y p) e.0 s in
        (a j x).same o p r (subst (λ z. C j z p) e.1 s')
    go o p (taken j x v r) (not_taken w s) = absurd (w.none j x v.derived)
    go o p (not_taken v r) (taken k y w s) = absurd (v.none k y w.derived)
    go o p (not_taken v r) (not_taken w s) = b.same o p r s

module _ {A C : ℕ → List CommentValue → Option ParsedNode → Type 0} where
  pub past_agree : (t : List ℕ) (n : ℤ) (c : Ctx) (i : ℕ) → ((k : ℕ) (cs : List CommentValue) → Agree (A k cs) (C k cs)) → Agree (Past t n c i A) (Past t n c i C)
  past_agree t n c i a = record { same = go } where
    go : (o p : Option ParsedNode) → Past t n c i A o → Past t n c i C p → o ≡ p
    go o p (past j x v r) (past k y w s) =
        let e = gap_one v w in
        let s' : C j y p = subst (λ m. C m y p) e.0 s in
        (a j x).same o p r (subst (λ z. C j z p) e.1 s')

module _ {R S : Option ParsedNode → Type 0} {A C : ParsedNode → Option ParsedNode → Type 0} {B D : Option ParsedNode → Type 0} where
  pub finds_agree : ((o p : Option ParsedNode) → R o → S p → o ≡ p) → ((f : ParsedNode) → Agree (A f) (C f)) → Agree B D → Agree (Finds R A B) (Finds S C D)
  finds_agree m a b = record { same = go } where
    go : (o p : Option ParsedNode) → Finds R A B o → Finds S C D p → o ≡ p
    go o p (finds f v r) (finds g w s) =
        let e = m (Some f) (Some g) v w in
        let q : g ≡ f = cc in
        (a f).same o p r (subst (λ z. C z p) q s)
    go o p (finds f v r) (finds_none w s) = let e = m (Some f) None v w in absurd (cc)
    go o p (finds_none v r) (finds g w s) = let e = m None (Some g) v w in absurd (cc)
    go o p (finds_none v r) (finds_none w s) = b.same o p r s

module _ {A C : ℕ → Option ParsedNode → Type 0} {B D : Option ParsedNode → Type 0} where
  pub limited_agree : (e : ℕ) → ((d : ℕ) → Agree (A d) (C d)) → Agree B D → Agree (Limited e A B) (Limited e C D)
  limited_agree e a b = record { same = go } where
    go : (o p : Option ParsedNode) → Limited e A B o → Limited e C D p → o ≡ p
    go o p (below d v r) (below f w s) = let q : f ≡ d = omega arith in (a d).same o p r (subst (λ z. C z p) q s)
    go o p (below d v r) (at_zero w s) = absurd (omega arith)
    go o p (at_zero v r) (below f w s) = absurd (omega arith)
    go o p (at_zero v r) (at_zero w s) = b.same o p r s

  pub somewhere_agree : {P : ℕ → Type 0} → ((j k : ℕ) → P j → P k → k ≡ j) → ((k : ℕ) → Agree (A k) (C k)) → Agree B D → Agree (Somewhere P A B) (Somewhere P C D)
  somewhere_agree {P} u a b = record { same = go } where
    go : (o p : Option ParsedNode) → Somewhere P A B o → Somewhere P C D p → o ≡ p
    go o p (there j v r) (there k w s) = (a j).same o p r (subst (λ z. C z p) (u j k v w) s)
    go o p (there j v r) (nowhere w s) = absurd (w j v)
    go o p (nowhere v r) (there k w s) = absurd (v k w)
    go o p (nowhere v r) (nowhere w s) = b.same o p r s

module _ {A C : Bool → Option ParsedNode → Type 0} where
  pub flagged_agree : {P : Bool → Type 0} → ((b d : Bool) → P b → P d → d ≡ b) → ((b : Bool) → Agree (A b) (C b)) → Agree (Flagged P A) (Flagged P C)
  flagged_agree {P} u a = record { same = go } where
    go : (o p : Option ParsedNode) → Flagged P A o → Flagged P C p → o ≡ p
    go o p (flagged b v r) (flagged d w s) = (a b).same o p r (subst (λ z. C z p) (u b d v w) s)
