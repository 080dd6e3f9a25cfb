-- Leaves that are written on one line, with no comment between them.
use Rattle.std.specs.Prelude.{◌≡◌, ℕ, Bool, true, false, ◌&&◌, nat_lt, find, List, [], ◌∷◌, None}
use Rattle.yf_comments.specs.Comment.{CommentValue}
use Rattle.yf_events.specs.declared.event.Span.{Span}
use Rattle.yf_events.specs.Tree.{Node, scalar, alias, sequence, mapping, Items, no_items, item, Pairs, no_pairs, pair, leaves}

-- a comment after one offset and before another
abbrev pub between : ℕ → ℕ → CommentValue → Bool
between from to c = nat_lt from c.offset && nat_lt c.offset to

pub data Still (cs : List CommentValue) : List Span → Type 0 where
  nothing_still : Still cs []
  one_still : {s : Span} → Still cs (s ∷ [])
  more_still : {s r : Span} {ss : List Span} → find (between s.start r.start) cs ≡ None → Still cs (r ∷ ss) → Still cs (s ∷ r ∷ ss)

-- this holds for each flow collection that is written on one line
abbrev mutual
  pub KeptStill : List CommentValue → Node → Type 0
  KeptStill cs (scalar at props style text lines) = Unit {0}
  KeptStill cs (alias at name) = Unit {0}
  KeptStill cs (sequence at true props xs) = Still cs (leaves (sequence at true props xs))
  KeptStill cs (sequence at false props xs) = ItemsStill cs xs
  KeptStill cs (mapping at true props ps) = Still cs (leaves (mapping at true props ps))
  KeptStill cs (mapping at false props ps) = PairsStill cs ps

  pub ItemsStill : List CommentValue → Items → Type 0
  ItemsStill cs no_items = Unit {0}
  ItemsStill cs (item x xs) = KeptStill cs x × ItemsStill cs xs

  pub PairsStill : List CommentValue → Pairs → Type 0
  PairsStill cs no_pairs = Unit {0}
  PairsStill cs (pair k v ps) = KeptStill cs k × (KeptStill cs v × PairsStill cs ps)
