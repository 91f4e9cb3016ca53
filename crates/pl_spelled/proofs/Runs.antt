-- The number of runs is told by the last line.
use Rattle.std.proofs.Common.{◌≡◌, ◌<◌, ◌^◌, ℕ, List, [], ◌∷◌, length, codes, refl, sym, ◌∙◌, append_assoc}
use Rattle.std.specs.Fmt.{decimal}
use Rattle.std.proofs.lemmas.Fmt.{decimal_injective}
use Rattle.pl_edit.specs.declared.edit.Edit.{Edit}
use Rattle.pl_edit.specs.declared.reply.EditReply.{EditReply}
use Rattle.pl_tech.specs.Technology.{Meaning}
use Rattle.pl_machine.specs.declared.entry.Entry.{Entry}
use Rattle.pl_transcript.specs.Words.{spaced}
use Rattle.pl_transcript.specs.Entries.{entries_text, end_text, transcript}
use Rattle.pl_spelled.proofs.Splitting.{AreSolid, head_same, tail_same, cancel, same_words}
use Rattle.pl_spelled.proofs.Numbers.{decimal_solid}
use Rattle.pl_spelled.proofs.Words.{literal_solid}

-- the words of the last line
abbrev end_words : ℕ → ℕ → List (List ℕ)
end_words entries runs = decimal entries ∷ codes "runs" ∷ decimal runs ∷ []

end_solid : (entries runs : ℕ) → AreSolid (end_words entries runs)
end_solid entries runs = (decimal_solid entries, (literal_solid (codes "runs") refl, (decimal_solid runs, tt)))

end_told : (entries runs others : ℕ) → end_text entries runs ≡ end_text entries others → decimal runs ≡ decimal others
end_told entries runs others e =
    let words =
    same_words (end_words entries runs) (end_words entries others) (10 ∷ []) (10 ∷ []) refl (end_solid entries runs) (end_solid entries others) refl refl
    (cancel (codes "end") _ _ (sym (append_assoc (codes "end") (spaced (end_words entries runs)) (10 ∷ [])) ∙ e ∙ append_assoc (codes "end") (spaced (end_words entries others)) (10 ∷ []))) in
    head_same _ _ [] [] (tail_same _ _ _ _ (tail_same _ _ _ _ words.0))

pub runs_told : {P O T J B : Type 0} (m : Meaning P Edit EditReply O) (history : List (Entry T P Edit EditReply O J B)) (runs others : ℕ) → runs < 2 ^ 64 → others < 2 ^ 64
    → transcript m history runs ≡ transcript m history others → runs ≡ others
runs_told m history runs others p q same = decimal_injective runs others p q (end_told (length history) runs others (cancel (entries_text m 1 history) _ _ same))
