-- Blocks of different names.
use Rattle.std.proofs.Common.{◌≡◌, ℕ, true, cond, Option, Some, None, List, [], ◌∷◌, ◌++◌, All, refl, ap, ◌∙◌}
use Rattle.std.specs.Str.{bytes_eq}
use Rattle.std.specs.Option.{option_or, IfSome}
use Rattle.std.specs.List.{find}
use Rattle.std.specs.Map.{lookup, values_of}
use Rattle.std.proofs.lemmas.Cmp.{nat_list_eq_equiv}
use Rattle.std.proofs.lemmas.Bool.{cond-true}
use Rattle.std.proofs.lemmas.Slice.Eq.{bytes_eq-Decides}
use Rattle.std.proofs.lemmas.List.Folds.{find-append}
use Rattle.std.proofs.lemmas.List.Elements.{All-nil, All-push, All-cons, All-head, All-tail}
use Rattle.pl_edit.specs.Data.{Data}
use Rattle.pl_script.specs.Forms.{is_name}
use Rattle.pl_script.specs.Orders.{block_named}
use Rattle.pl_script.specs.Kept.{IsBlocks, IsKeyed}
use Rattle.pl_script.proofs.Keeping.{found_passes}

named_before : (blocks : List Data) (block : Data) (name : List ℕ) (found : Data) → block_named blocks name ≡ Some found → block_named (blocks ++ block ∷ []) name ≡ Some found
named_before blocks block name found e = find-append (λ b. bytes_eq b.name name) blocks (block ∷ []) ∙ ap (λ o. option_or o (find (λ b. bytes_eq b.name name) (block ∷ []))) e

named_last : (blocks : List Data) (block : Data) → block_named blocks block.name ≡ None → block_named (blocks ++ block ∷ []) block.name ≡ Some block
named_last blocks block e =
    find-append (λ b. bytes_eq b.name block.name) blocks (block ∷ [])
    ∙ ap (λ o. option_or o (find (λ b. bytes_eq b.name block.name) (block ∷ []))) e
    ∙ cond-true (bytes_eq block.name block.name) _ _ ((bytes_eq-Decides block.name block.name).1 refl)

all_before : (all : List Data) (block : Data) (blocks : List Data) → All (λ b. block_named all b.name ≡ Some b) blocks → All (λ b. block_named (all ++ block ∷ []) b.name ≡ Some b) blocks
all_before all block [] h = All-nil (λ b. block_named (all ++ block ∷ []) b.name ≡ Some b)
all_before all block (b ∷ bs) h =
    All-cons (λ b. block_named (all ++ block ∷ []) b.name ≡ Some b) b bs (named_before all block b.name b (All-head (λ b. block_named all b.name ≡ Some b) b bs h)) (all_before all block bs (All-tail (λ b. block_named all b.name ≡ Some b) b bs h))

pub blocks_added : (blocks : List Data) (block : Data) → IsBlocks blocks → block_named blocks block.name ≡ None → is_name block.name ≡ true → IsBlocks (blocks ++ block ∷ [])
blocks_added blocks block h new named = record {
  named = All-push (λ b. is_name b.name ≡ true) blocks block h.named named;
  apart = All-push (λ b. block_named (blocks ++ block ∷ []) b.name ≡ Some b) blocks block (all_before blocks block blocks h.apart) (named_last blocks block new);
}

-- a block that is found by a name has that name
pub found_named : (blocks : List Data) (name : List ℕ) → IfSome (block_named blocks name) (λ block. block_named blocks block.name ≡ Some block)
found_named blocks name = by (block_named blocks name) refl (found_passes (λ block. bytes_eq block.name name) blocks)
  where
    by : (o : Option Data) → block_named blocks name ≡ o → IfSome o (λ block. bytes_eq block.name name ≡ true) → IfSome o (λ block. block_named blocks block.name ≡ Some block)
    by None e h = tt
    by (Some block) e h = ap (block_named blocks) ((bytes_eq-Decides block.name name).0 h) ∙ e

-- a map whose keys are the names of its blocks

module _ {K : Type 0} (key : K → List ℕ) where
  -- finds a block by its name
  pub named_by_key : (name : List ℕ) (entries : List (K × Data)) → IsKeyed entries key → lookup (λ k. bytes_eq name (key k)) entries ≡ block_named (values_of entries) name
  named_by_key name [] h = refl
  named_by_key name (e ∷ es) h =
      let here : bytes_eq name (key e.0) ≡ bytes_eq e.1.name name = nat_list_eq_equiv.symm name (key e.0) ∙ ap (λ k. bytes_eq k name) (All-head (λ entry. key entry.0 ≡ entry.1.name) e es h) in
      let rest : lookup (λ k. bytes_eq name (key k)) es ≡ block_named (values_of es) name = named_by_key name es (All-tail (λ entry. key entry.0 ≡ entry.1.name) e es h) in
      λ i. cond (here i) (Some e.1) (rest i)

  -- has no entry at a new name
  pub absent_key : (entries : List (K × Data)) (k : K) (block : Data) → IsKeyed entries key → key k ≡ block.name → block_named (values_of entries) block.name ≡ None → lookup (λ other. bytes_eq (key k) (key other)) entries ≡ None
  absent_key entries k block h named new = ap (λ name. lookup (λ other. bytes_eq name (key other)) entries) named ∙ named_by_key block.name entries h ∙ new

  pub keyed_added : (entries : List (K × Data)) (k : K) (block : Data) → IsKeyed entries key → key k ≡ block.name → IsKeyed (entries ++ (k, block) ∷ []) key
  keyed_added entries k block h named = All-push (λ entry. key entry.0 ≡ entry.1.name) entries (k, block) h named

pub values_added : {K : Type 0} (entries : List (K × Data)) (k : K) (block : Data) → values_of (entries ++ (k, block) ∷ []) ≡ values_of entries ++ block ∷ []
values_added [] k block = refl
values_added (e ∷ es) k block = ap (λ bs. e.1 ∷ bs) (values_added es k block)
