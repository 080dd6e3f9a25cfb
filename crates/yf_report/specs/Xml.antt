-- The tags of an XML document, as far as a report has any (XML 1.0, sections 2.2 to 3.1): an XML declaration, and then
-- start tags, end tags and empty-element tags with white space between them. Each start tag has an attribute, and each
-- value is in double quotes, has no `<` or `>` in it, and only the references below. Another document isn't read.
use Rattle.std.specs.Prelude.{ℕ, ◌==◌, ◌&&◌, ◌||◌, List, [], ◌∷◌, ◌++◌, Bool}
use Rattle.std.specs.Prelude.{true, false, codes, bytes_eq, Option}
use Rattle.std.specs.Prelude.{None, Some, option_map, option_and_then, if◌then◌else◌}
use Rattle.std.specs.List.{slice_split, list_all, list_any}
use Rattle.yf_report.specs.Commands.{split_once}

pub record Attribute : Type 0 where
  pub name : List ℕ
  pub value : List ℕ

pub data Tag : Type 0 where
  open_tag : List ℕ → List Attribute → Tag
  close_tag : List ℕ → Tag
  empty_tag : List ℕ → List Attribute → Tag

-- ---- the value of an attribute

-- the character of a reference
abbrev pub referred : List ℕ → Option ℕ
referred name =
    if bytes_eq name (codes "amp") then Some 38 else
    (if bytes_eq name (codes "lt") then Some 60 else
    (if bytes_eq name (codes "gt") then Some 62 else
    (if bytes_eq name (codes "quot") then Some 34 else
    (if bytes_eq name (codes "#9") then Some 9 else
    (if bytes_eq name (codes "#10") then Some 10 else
    (if bytes_eq name (codes "#13") then Some 13 else None))))))

-- the value, with the reference that has begun
unfoldable pub value_in : Option (List ℕ) → List ℕ → Option (List ℕ)
value_in None [] = Some []
value_in (Some name) [] = None
value_in None (x ∷ xs) = if x == 38 then value_in (Some []) xs else option_map (λ l. x ∷ l) (value_in None xs)
value_in (Some name) (x ∷ xs) = if x == 59 then
    option_and_then (λ c. option_map (λ l. c ∷ l) (value_in None xs)) (referred name) else value_in
    (Some (name ++ x ∷ [])) xs

-- ---- a tag

-- ` name=`
abbrev pub name_in : List ℕ → Option (List ℕ)
name_in [] = None
name_in (x ∷ xs) = if x == 32 then
    option_and_then (λ p. if bytes_eq p.1 [] then Some p.0 else None) (split_once 61 xs) else None

abbrev pub attribute_in : List ℕ → List ℕ → Option Attribute
attribute_in name value =
    option_and_then (λ n. option_map (λ v. record { name = n; value = v }) (value_in None value)) (name_in name)

-- the attributes in the parts between the quotes, and whether the tag is an empty element
abbrev pub attributes_in : List (List ℕ) → Option (List Attribute × Bool)
attributes_in [] = None
attributes_in (last ∷ []) = if bytes_eq last [] then
    Some ([], false) else (if bytes_eq last (codes "/") then Some ([], true) else None)
attributes_in (name ∷ value ∷ more) =
    option_and_then (λ a. option_map (λ p. (a ∷ p.0, p.1)) (attributes_in more)) (attribute_in name value)

abbrev pub tag_with : List ℕ → List Attribute × Bool → Tag
tag_with name p = if p.1 then empty_tag name p.0 else open_tag name p.0

-- a tag without its angle brackets
abbrev pub tag_from : List ℕ → Option Tag
tag_from [] = None
tag_from (x ∷ xs) =
    if x == 47 then Some (close_tag xs)
    else option_and_then (λ p. option_map (tag_with p.0) (attributes_in (slice_split (λ b. b == 34) (32 ∷ p.1))))
    (split_once 32 (x ∷ xs))

abbrev pub is_space : ℕ → Bool
is_space b = (b == 32 || b == 9) || (b == 10 || b == 13)

-- a tag up to its `>`, with white space before it
unfoldable pub tag_in : List ℕ → Option Tag
tag_in part = option_and_then
    (λ p. if list_all is_space p.0 then (if list_any (λ b. b == 60) p.1 then None else tag_from p.1) else None)
    (split_once 60 part)

-- ---- a document

abbrev pub if_space : List ℕ → Option (List Tag)
if_space last = if list_all is_space last then Some [] else None

-- the tags of the parts before each `>`, with white space after the last one
abbrev pub tags_of_parts : List (List ℕ) → Option (List Tag)
tags_of_parts [] = None
tags_of_parts (last ∷ []) = if_space last
tags_of_parts (part ∷ next ∷ more) =
    option_and_then (λ t. option_map (λ ts. t ∷ ts) (tags_of_parts (next ∷ more))) (tag_in part)

abbrev pub declaration : List ℕ
declaration = codes "<?xml version=\"1.0\" encoding=\"UTF-8\"?"

-- the tags after the XML declaration
abbrev pub tags_after : List (List ℕ) → Option (List Tag)
tags_after [] = None
tags_after (first ∷ rest) = if bytes_eq first declaration then tags_of_parts rest else None

unfoldable pub tags_in : List ℕ → Option (List Tag)
tags_in text = tags_after (slice_split (λ b. b == 62) text)

-- each end tag ends the element that was opened last, and each element is ended
abbrev pub is_nested : List (List ℕ) → List Tag → Bool
is_nested [] [] = true
is_nested (name ∷ names) [] = false
is_nested names (open_tag name attributes ∷ ts) = is_nested (name ∷ names) ts
is_nested names (empty_tag name attributes ∷ ts) = is_nested names ts
is_nested [] (close_tag name ∷ ts) = false
is_nested (last ∷ names) (close_tag name ∷ ts) = bytes_eq last name && is_nested names ts
