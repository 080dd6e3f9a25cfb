-- One entry of a block collection, from its awaited node: after `-`, after `:`, after a key, and after the `:` of a `?`
-- entry.
use Rattle.std.proofs.Common.{◌≡◌, ℕ, ◌+◌, ◌≤◌, pos, true, false, List, ◌∷◌, Option, Some, None, refl, subst}
use Rattle.yf_chars.specs.declared.context.Ctx.TheVariants.{BlockOut, BlockIn, FlowOut}
use Rattle.yf_grammar.specs.Productions.Grammar.{ColonLine}
use Rattle.yf_grammar.specs.FlowReader.Parser.{ParsedNode, found, Parses, ANode}
use Rattle.yf_grammar.specs.BlockReader.BlockParser.{DashAt, SignAt, Indicator, KeyBefore, Origin, key_limit, key_indent, BlockTask, Awaited, Item, item_found, lone_key, lone_value, pair_found, Whole}
use Rattle.yf_grammar.specs.BlockReader.BlockParser.Whole.{item_read, item_missed, question_missed, question_alone, question_and_value, question_value_missed, colon_read, colon_missed, key_read, key_value_missed}
use Rattle.yf_grammar.specs.BlockReader.Halts.{NoneAfter, then_found, Halts}
use Rattle.yf_grammar.specs.BlockReader.Halts.Halts.{halts_dash, halts_question, halts_before_value, halts_value, halts_colon, halts_key}
use Rattle.yf_grammar.specs.BlockReader.BlockSteps.{TaskAwaited, TaskHalted, made_or, as_item, as_lone_key, as_lone_value, as_value}

-- from a task to itself, and through a task between two others
pub awaits_itself : {t : List ℕ} {e : ℕ} {a : BlockTask} → TaskAwaited t e a (λ f. f) e a
awaits_itself = record { some = λ g w. w; none = λ w. w }

pub halts_itself : {t : List ℕ} {e : ℕ} {ws : List ℕ} {a : BlockTask} → TaskHalted t e ws a (λ f. f) None e ws a
halts_itself = record { some = λ g h. h; none = λ h. h }

-- any outcome
pub outcome_halted : {t : List ℕ} {e d : ℕ} {vs ws : List ℕ} {a b : BlockTask} {f : ParsedNode → ParsedNode} {o r : Option ParsedNode} → TaskHalted t e vs a f o d ws b
    → Halts t e vs a r → Halts t d ws b (made_or f o r)
unfolding made_or
outcome_halted {r = None} s h = s.none h
outcome_halted {r = Some g} s h = s.some g h

pub awaits_through : {t : List ℕ} {e d l : ℕ} {a b c : BlockTask} {f g : ParsedNode → ParsedNode} → TaskAwaited t e a f d b → TaskAwaited t d b g l c
    → TaskAwaited t e a (λ x. g (f x)) l c
awaits_through {f = f} s r = record { some = λ x w. r.some (f x) (s.some x w); none = λ w. r.none (s.none w) }

pub halts_through : {t : List ℕ} {e d l : ℕ} {us vs ws : List ℕ} {a b c : BlockTask} {f g : ParsedNode → ParsedNode} {o r : Option ParsedNode}
    → TaskHalted t e us a f o d vs b → TaskHalted t d vs b g r l ws c → TaskHalted t e us a (λ x. g (f x)) (made_or g r o) l ws c
halts_through {f = f} s r = record { some = λ x h. r.some (f x) (s.some x h); none = λ h. outcome_halted r (s.none h) }

-- after `-`
pub dash_awaits : {t : List ℕ} {e m i : ℕ} {q : Origin} → DashAt t i
    → TaskAwaited t e (Awaited true (pos m) BlockIn (Indicator (i + 1)) (i + 1)) (as_item i) e (Item true m q i)
unfolding item_found found
dash_awaits d = record { some = λ g w. item_read d w; none = λ w. item_missed d w }

pub dash_halts : {t : List ℕ} {e m i : ℕ} {ws : List ℕ} {q : Origin} → DashAt t i
    → TaskHalted t e ws (Awaited true (pos m) BlockIn (Indicator (i + 1)) (i + 1)) (as_item i) None e ws (Item true m q i)
unfolding then_found item_found found
dash_halts d = record { some = λ g h. halts_dash d h; none = λ h. halts_dash d h }

-- after a `:` without a key
pub colon_awaits : {t : List ℕ} {e m i : ℕ} {q : Origin} → SignAt t 58 i
    → TaskAwaited t e (Awaited false (pos m) BlockOut (Indicator (i + 1)) (i + 1)) (as_lone_value i) e (Item false m q i)
unfolding lone_value found
colon_awaits s = record { some = λ g w. colon_read s w; none = λ w. colon_missed s w }

pub colon_halts : {t : List ℕ} {e m i : ℕ} {ws : List ℕ} {q : Origin} → SignAt t 58 i
    → TaskHalted t e ws (Awaited false (pos m) BlockOut (Indicator (i + 1)) (i + 1)) (as_lone_value i) None e ws (Item false m q i)
unfolding then_found lone_value found
colon_halts s = record { some = λ g h. halts_colon s h; none = λ h. halts_colon s h }

-- after a key, which is a flow node on one line, and its `:`
pub key_awaits : {t : List ℕ} {e m i k : ℕ} {q : Origin} {f : ParsedNode} → (SignAt t 63 i → ⊥) → (SignAt t 58 i → ⊥)
    → Parses t (key_limit e q) (ANode (key_indent m q) FlowOut i) (Some f) → f.height ≤ e → KeyBefore t i f k
    → TaskAwaited t e (Awaited false (pos m) BlockOut (Indicator (k + 1)) (k + 1)) (as_value i k f) e (Item false m q i)
unfolding pair_found found
key_awaits u c p l b = record { some = λ g w. key_read u c p l b w; none = λ w. key_value_missed u c p l b w }

pub key_halts : {t : List ℕ} {e m i k : ℕ} {ws : List ℕ} {q : Origin} {f : ParsedNode} → (SignAt t 63 i → ⊥) → (SignAt t 58 i → ⊥)
    → Parses t (key_limit e q) (ANode (key_indent m q) FlowOut i) (Some f) → f.height ≤ e → KeyBefore t i f k
    → TaskHalted t e ws (Awaited false (pos m) BlockOut (Indicator (k + 1)) (k + 1)) (as_value i k f) None e ws (Item false m q i)
unfolding then_found pair_found found
key_halts u c p l b = record { some = λ g h. halts_key u c p l b h; none = λ h. halts_key u c p l b h }

lone_key_made : (i : ℕ) (o : Option ParsedNode) → then_found (lone_key i) o ≡ made_or (as_lone_key i) None o
unfolding then_found made_or lone_key found
lone_key_made i None = refl
lone_key_made i (Some f) = refl

-- after `?`: the key is missing; or no `:` follows it, and it is the whole entry; and its last halt counts
pub question_broken : {t : List ℕ} {e m i : ℕ} {q : Origin} → SignAt t 63 i → Whole t e (Awaited true (pos m) BlockOut (Indicator (i + 1)) (i + 1)) None
    → Whole t e (Item false m q i) None
question_broken s w = question_missed s w

pub question_ends : {t : List ℕ} {e m i : ℕ} {q : Origin} {f : ParsedNode} → SignAt t 63 i → Whole t e (Awaited true (pos m) BlockOut (Indicator (i + 1)) (i + 1)) (Some f)
    → (ColonLine t m f.end → ⊥) → Whole t e (Item false m q i) (Some (as_lone_key i f))
unfolding lone_key found
question_ends s w c = question_alone s w c

pub question_halts : {t : List ℕ} {e m i : ℕ} {ws : List ℕ} {q : Origin} {r o : Option ParsedNode} → SignAt t 63 i
    → Whole t e (Awaited true (pos m) BlockOut (Indicator (i + 1)) (i + 1)) r → NoneAfter (ColonLine t m) r
    → Halts t e (m ∷ ws) (Awaited true (pos m) BlockOut (Indicator (i + 1)) (i + 1)) o → Halts t e ws (Item false m q i) (made_or (as_lone_key i) None o)
question_halts {t} {e} {m} {i} {ws} {q} {o = o} s w c h = subst (λ z. Halts t e ws (Item false m q i) z) (lone_key_made i o) (halts_question s w c h)

-- after the `:` of an entry with a `?` whose key was found; if the value has no end, only the key counts, up to its
-- last halt before that `:`
pub value_awaits : {t : List ℕ} {e m i : ℕ} {q : Origin} {f : ParsedNode} → SignAt t 63 i
    → Whole t e (Awaited true (pos m) BlockOut (Indicator (i + 1)) (i + 1)) (Some f) → ColonLine t m f.end
    → TaskAwaited t e (Awaited true (pos m) BlockOut (Indicator (f.end + m + 1)) (f.end + m + 1)) (as_value i (f.end + m) f) e (Item false m q i)
unfolding pair_found found
value_awaits s k c = record { some = λ g w. question_and_value s k c w; none = λ w. question_value_missed s k c w }

pub value_halts : {t : List ℕ} {e m i : ℕ} {ws : List ℕ} {q : Origin} {f : ParsedNode} {o : Option ParsedNode} → SignAt t 63 i
    → Whole t e (Awaited true (pos m) BlockOut (Indicator (i + 1)) (i + 1)) (Some f) → ColonLine t m f.end
    → Halts t e (m ∷ ws) (Awaited true (pos m) BlockOut (Indicator (i + 1)) (i + 1)) o
    → TaskHalted t e ws (Awaited true (pos m) BlockOut (Indicator (f.end + m + 1)) (f.end + m + 1)) (as_value i (f.end + m) f)
    (made_or (as_lone_key i) None o) e ws (Item false m q i)
unfolding pair_found found
value_halts {t} {e} {m} {i} {ws} {q} {f} {o} s k c a =
    record { some = λ g h. halts_value s k c h; none = λ h. subst (λ z. Halts t e ws (Item false m q i) z) (lone_key_made i o) (halts_before_value s k c h a) }
