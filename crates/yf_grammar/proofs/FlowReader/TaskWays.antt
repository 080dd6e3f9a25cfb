-- The way of each task of the recursive reader of flow nodes, over the outcomes of the tasks that it calls.
use Rattle.std.proofs.Common.{◌≡◌, ◌≢◌, ℕ, max, ◌+◌, ◌<◌, ◌≤◌, ℤ, Bool, true, false, ◌==◌, ◌||◌, List, [], ◌++◌, Option, Some, None, encode_utf8_all}
use Rattle.yf_chars.specs.declared.context.Ctx.{Ctx}
use Rattle.yf_chars.specs.Text.{code}
use Rattle.yf_comments.specs.Comments.{Separate}
use Rattle.yf_events.specs.declared.event.ScalarStyle.TheVariants.{Plain as PlainStyle, Single as SingleStyle, Double as DoubleStyle}
use Rattle.yf_plain.specs.Plain.{Plain}
use Rattle.yf_props.specs.Names.{Alias, Properties, PropertiesValue}
use Rattle.yf_quoted.specs.Quoted.{text_of, SingleQuoted, DoubleQuoted}
use Rattle.yf_grammar.specs.Productions.Grammar.{bad_escapes, in_flow, opening, closing}
use Rattle.yf_grammar.specs.Productions.Meaning.{◌⊕◌, meaning_after, noting, scalar, alias_to, empty_node, entering}
use Rattle.yf_grammar.specs.FlowReader.Parser.{ParsedNode, Task, ColonAt, PairKey, found, plain_found, propertied, lone_properties, bracketed, joined, paired, pair_entry, only, begins_alias, begins_properties, begins_content}
use Rattle.yf_grammar.specs.FlowReader.Parser as Parser
use Rattle.yf_grammar.proofs.Ends.Ways.{Is, Never, Fork, Takes, Past, Finds, Limited, Somewhere, Flagged}

-- the outcomes of the tasks that a task calls
abbrev pub Outcomes : Type 1
Outcomes = ℕ → Task → Option ParsedNode → Type 0

-- after properties that end at g
abbrev pub AfterProperties : Outcomes → List ℕ → ℕ → ℤ → Ctx → ℕ → ℕ → PropertiesValue → Option ParsedNode → Type 0
AfterProperties R t e n c i g p = Takes (Separate t n c g)
    (λ k cs. Fork (begins_content (code t k) ≡ true) (begins_content (code t k) ≡ false)
    (Finds (R e (Parser.AContent n c k)) (λ f. Is (propertied p cs i g f)) (Is (lone_properties p i g)))
    (Takes (Plain t n c k)
    (λ j x. Is (propertied p cs i g (record { end = j; height = 0; json = false; meaning = scalar PlainStyle (encode_utf8_all x) [] k j })))
    (Is (lone_properties p i g))))
    (Is (lone_properties p i g))

abbrev pub NodeWay : Outcomes → List ℕ → ℕ → ℤ → Ctx → ℕ → Option ParsedNode → Type 0
NodeWay R t e n c i = Fork (begins_alias (code t i) ≡ true) (begins_alias (code t i) ≡ false)
    (Takes (Alias t i) (λ j name. Is (found j 0 false (alias_to name i j))) (Is None))
    (Fork (begins_properties (code t i) ≡ true) (begins_properties (code t i) ≡ false)
    (Takes (Properties t n c i) (λ g p. AfterProperties R t e n c i g p) (Is None))
    (Fork (begins_content (code t i) ≡ true) (begins_content (code t i) ≡ false)
    (R e (Parser.AContent n c i))
    (Takes (Plain t n c i) (λ j x. Is (plain_found x i j)) (Is None))))

abbrev pub BracketWay : Outcomes → List ℕ → ℕ → ℤ → Ctx → ℕ → Option ParsedNode → Type 0
BracketWay R t e n c i = Flagged (λ s. code t i ≡ opening s)
    (λ s. Limited e
    (λ d. Past t n c (i + 1) (λ k cs. Finds (R d (Parser.TheEntries s n (in_flow c) k)) (λ f. Is (bracketed s i cs f)) (Is None)))
    (Is None))

abbrev pub ContentWay : Outcomes → List ℕ → ℕ → ℤ → Ctx → ℕ → Option ParsedNode → Type 0
ContentWay R t e n c i = Fork (code t i ≡ 39) (code t i ≢ 39)
    (Takes (SingleQuoted t n c i) (λ j x. Is (found j 0 true (scalar SingleStyle (encode_utf8_all x) [] i j))) (Is None))
    (Fork (code t i ≡ 34) (code t i ≢ 34)
    (Takes (DoubleQuoted t n c i) (λ j x. Is (found j 0 true (scalar DoubleStyle (encode_utf8_all (text_of x)) (bad_escapes x) i j))) (Is None))
    (BracketWay R t e n c i))

-- after an entry
abbrev pub AfterEntry : Outcomes → List ℕ → ℕ → Bool → ℤ → Ctx → ParsedNode → Option ParsedNode → Type 0
AfterEntry R t e s n c f = Past t n c f.end (λ k cs. Fork (code t k ≡ closing s) (code t k ≢ closing s)
    (Is (found k f.height true (noting f.meaning cs)))
    (Fork (code t k ≡ 44) (code t k ≢ 44)
    (Past t n c (k + 1) (λ m ds. Finds (R e (Parser.TheEntries s n c m)) (λ g. Is (joined f (cs ++ ds) g)) (Is None)))
    (Is None)))

abbrev pub EntriesWay : Outcomes → List ℕ → ℕ → Bool → ℤ → Ctx → ℕ → Option ParsedNode → Type 0
EntriesWay R t e s n c i = Fork (code t i ≡ closing s) (code t i ≢ closing s)
    (Is (found i 0 true (only [] i)))
    (Finds (R e (Parser.AnEntry s n c i)) (λ f. AfterEntry R t e s n c f) (Is None))

abbrev pub MappingWay : Outcomes → List ℕ → ℕ → ℤ → Ctx → ℕ → Option ParsedNode → Type 0
MappingWay R t e n c i = Fork (code t i ≡ 63) (code t i ≢ 63)
    (Takes (Separate t n c (i + 1))
    (λ k cs. Finds (R e (Parser.AnExplicit n c i k)) (λ f. Is (Some (record f { meaning = meaning_after cs f.meaning }))) (Is None))
    (R e (Parser.AnImplicit n c i i)))
    (R e (Parser.AnImplicit n c i i))

-- an entry of a sequence that begins with no sign, from its first node on
abbrev pub NodeItemWay : Outcomes → List ℕ → ℕ → ℤ → Ctx → ℕ → ParsedNode → Option ParsedNode → Type 0
NodeItemWay R t e n c i f = Somewhere (PairKey t c i f)
    (λ k. Fork (f.height < e) (e ≤ f.height)
    (Limited e
    (λ d. Finds (R d (Parser.AValue f.json n c k))
    (λ g. Is (pair_entry i (record { end = g.end; height = max f.height g.height; json = false; meaning = entering i (Some k) f.meaning ⊕ g.meaning })))
    Never)
    Never)
    (Is None))
    (Is (Some (record f { meaning = entering i None f.meaning })))

abbrev pub UnsignedWay : Outcomes → List ℕ → ℕ → ℤ → Ctx → ℕ → Option ParsedNode → Type 0
UnsignedWay R t e n c i = Fork (ColonAt t false c i) (ColonAt t false c i → ⊥)
    (Limited e
    (λ d. Finds (R d (Parser.AValue false n c i)) (λ f. Is (pair_entry i (record f { meaning = entering i (Some i) (empty_node i) ⊕ f.meaning }))) Never)
    (Is None))
    (Finds (R e (Parser.ANode n c i)) (λ f. NodeItemWay R t e n c i f) (Is None))

abbrev pub ItemWay : Outcomes → List ℕ → ℕ → ℤ → Ctx → ℕ → Option ParsedNode → Type 0
ItemWay R t e n c i = Fork (code t i ≡ 63) (code t i ≢ 63)
    (Takes (Separate t n c (i + 1))
    (λ k cs. Limited e
    (λ d. Finds (R d (Parser.AnExplicit n c i k)) (λ f. Is (pair_entry i (record f { meaning = meaning_after cs f.meaning }))) (Is None))
    (Is None))
    (UnsignedWay R t e n c i))
    (UnsignedWay R t e n c i)

abbrev pub ExplicitWay : Outcomes → List ℕ → ℕ → ℤ → Ctx → ℕ → ℕ → Option ParsedNode → Type 0
ExplicitWay R t e n c s i = Fork ((code t i == 44) || (code t i == 93) || (code t i == 125) ≡ true) ((code t i == 44) || (code t i == 93) || (code t i == 125) ≡ false)
    (Is (found i 0 false (entering s None (empty_node (s + 1)) ⊕ empty_node (s + 1))))
    (R e (Parser.AnImplicit n c s i))

-- after a key
abbrev pub AfterKey : Outcomes → List ℕ → ℕ → ℤ → Ctx → ℕ → ParsedNode → Option ParsedNode → Type 0
AfterKey R t e n c s f = Past t n c f.end (λ k cs. Fork (ColonAt t f.json c k) (ColonAt t f.json c k → ⊥)
    (Finds (R e (Parser.AValue f.json n c k)) (λ g. Is (paired s k f cs g)) Never)
    (Is (Some (record f { meaning = entering s None f.meaning ⊕ empty_node f.meaning.finish }))))

abbrev pub ImplicitWay : Outcomes → List ℕ → ℕ → ℤ → Ctx → ℕ → ℕ → Option ParsedNode → Type 0
ImplicitWay R t e n c s i = Fork (ColonAt t false c i) (ColonAt t false c i → ⊥)
    (Finds (R e (Parser.AValue false n c i)) (λ f. Is (Some (record f { meaning = entering s (Some i) (empty_node i) ⊕ f.meaning }))) Never)
    (Finds (R e (Parser.ANode n c i)) (λ f. AfterKey R t e n c s f) (Is None))

-- a value with no separation before it
abbrev pub AdjacentWay : Outcomes → List ℕ → ℕ → Bool → ℤ → Ctx → ℕ → Option ParsedNode → Type 0
AdjacentWay R t e true n c i = Finds (R e (Parser.ANode n c (i + 1))) (λ f. Is (Some f)) (Is (found (i + 1) 0 false (empty_node (i + 1))))
AdjacentWay R t e false n c i = Is (found (i + 1) 0 false (empty_node (i + 1)))

abbrev pub ValueWay : Outcomes → List ℕ → ℕ → Bool → ℤ → Ctx → ℕ → Option ParsedNode → Type 0
ValueWay R t e json n c i = Takes (Separate t n c (i + 1))
    (λ k cs. Finds (R e (Parser.ANode n c k)) (λ f. Is (Some (record f { meaning = meaning_after cs f.meaning }))) (Is (found (i + 1) 0 false (empty_node (i + 1)))))
    (AdjacentWay R t e json n c i)

-- the way of each task
abbrev pub Way : Outcomes → List ℕ → ℕ → Task → Option ParsedNode → Type 0
Way R t e (Parser.ANode n c i) = NodeWay R t e n c i
Way R t e (Parser.AContent n c i) = ContentWay R t e n c i
Way R t e (Parser.TheEntries s n c i) = EntriesWay R t e s n c i
Way R t e (Parser.AnEntry true n c i) = ItemWay R t e n c i
Way R t e (Parser.AnEntry false n c i) = MappingWay R t e n c i
Way R t e (Parser.AnExplicit n c s i) = ExplicitWay R t e n c s i
Way R t e (Parser.AnImplicit n c s i) = ImplicitWay R t e n c s i
Way R t e (Parser.AValue json n c i) = ValueWay R t e json n c i
