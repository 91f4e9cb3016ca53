-- The tools of the heights that are done.
use Rattle.std.proofs.Common.{◌≡◌, ℕ, ◌+◌, ◌<◌, List, [], ◌∷◌, ◌++◌, length, map, take, get_or, refl, sym, ap, ◌∙◌, arith}
use Rattle.std.proofs.lemmas.List.{take_more, get_or-map, length-map}
use Rattle.std.proofs.Math.Seq.{take-length}
use Rattle.pl_tower.specs.Tools.{order_of}
use Rattle.pl_tower.specs.Heights.{last_tool, tool_before, tools_along}
use Rattle.pl_tower.proofs.HeightLemmas.{length_along, order_at, tool_after_height}

module _ {X : Type 0} (set_of : X → ℕ) (tops : List X) where
  -- the tools of the next height, on from those below it
  pub along_more : (n : ℕ) (heights more : List (List ℕ)) (current after : ℕ) (top : X) (set : ℕ) (tools : List ℕ) → n < length tops → heights ≡ take n (tools_along 0 (map set_of tops)) → current ≡ tool_before (tools_along 0 (map set_of tops)) n
      → set ≡ set_of (get_or tops n top) → tools ≡ order_of current set → after ≡ last_tool current tools → more ≡ heights ++ tools ∷ []
      → (more ≡ take (n + 1) (tools_along 0 (map set_of tops))) × (after ≡ tool_before (tools_along 0 (map set_of tops)) (n + 1))
  along_more n heights more current after top set tools less done now is made last push =
      let along = tools_along 0 (map set_of tops) in
      let shorter : n < length (map set_of tops) = omega (arith, less, length-map tops set_of) in
      let within : n < length along = omega (arith, shorter, length_along 0 (map set_of tops)) in
      let used : get_or (map set_of tops) n 0 ≡ set = get_or-map set_of tops n top 0 less ∙ sym is in
      let here : get_or along n [] ≡ tools = order_at (map set_of tops) n shorter ∙ (λ i. order_of (sym now i) (used i)) ∙ sym made in (
        push ∙ (λ i. done i ++ sym here i ∷ []) ∙ sym (take_more along n [] within),
        last ∙ (λ i. last_tool (now i) (sym here i)) ∙ sym (tool_after_height along n within),
      )

  -- those of all heights
  pub along_all : (heights : List (List ℕ)) → heights ≡ take (length tops) (tools_along 0 (map set_of tops)) → heights ≡ tools_along 0 (map set_of tops)
  along_all heights done =
      let along = tools_along 0 (map set_of tops) in
      let long : length tops ≡ length along = sym (length_along 0 (map set_of tops) ∙ length-map tops set_of) in
      done ∙ ap (λ n. take n along) long ∙ take-length along
