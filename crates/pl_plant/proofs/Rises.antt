-- The words after a call are the epochs after it.
use Rattle.std.proofs.Common.{◌≡◌, ℕ, ◌+◌, ◌<◌, ◌≤◌, inl, inr, Bool, true, false, cond, List, length, get_or, set, refl, ap, sym, ◌∙◌, arith, get_or-set_same, get_or-set_other}
use Rattle.std.proofs.lemmas.Bool.{cases_lt}
use Rattle.pl_tech.specs.Technology.{Meaning, IsLawful}
use Rattle.pl_tech.specs.Slots.{has}
use Rattle.pl_machine.specs.declared.entry.Command.{Command}
use Rattle.pl_machine.specs.declared.entry.Command.TheVariants.{Edit, Apply, Export, Status, Cancel, After}
use Rattle.pl_machine.specs.declared.entry.Reply.{Reply}
use Rattle.pl_machine.specs.declared.entry.Reply.TheVariants.{Unchanged, Changed, Invalidated, Cancelled}
use Rattle.pl_machine.specs.Each.{each_slot, get_or-each_slot, is_each_slot, length-each_slot}
use Rattle.pl_machine.specs.Machine.{Machine, Replies, after_command, epoch_of, epochs_after, is_hit, is_started, mode_of}
use Rattle.pl_plant.specs.Falling.{HasFallen}
use Rattle.pl_plant.proofs.Commands.{none_hit}

-- of the slots below n those of the set have risen by one, and all others are as before
pub record IsRaisedBelow (slots n : ℕ) (old new : List ℕ) : Type 0 where
  pub done : (k : ℕ) → k < n → get_or new k 0 ≡ cond (has slots k) (get_or old k 0 + 1) (get_or old k 0)
  pub left : (k : ℕ) → n ≤ k → get_or new k 0 ≡ get_or old k 0

pub raised_yes : (slots n v : ℕ) (old now : List ℕ) → n < length now → has slots n ≡ true → v ≡ get_or now n 0 + 1 → IsRaisedBelow slots n old now
    → IsRaisedBelow slots (n + 1) old (set now n v)
raised_yes slots n v old now within member is raised = record {
  done = λ k low. elim (cases_lt k n) [
    | inl below ↦ get_or-set_other now n k v 0 (omega arith) ∙ raised.done k below
    | inr above ↦
        let e : k ≡ n = omega arith in
        ap (λ j. get_or (set now n v) j 0) e ∙ get_or-set_same now n v 0 within ∙ is ∙ ap (λ c. c + 1) (raised.left n (omega arith) ∙ ap (λ j. get_or old j 0) (sym e))
        ∙ sym (ap (λ b. cond b (get_or old k 0 + 1) (get_or old k 0)) (ap (has slots) e ∙ member))
  ];
  left = λ k far. get_or-set_other now n k v 0 (omega arith) ∙ raised.left k (omega arith);
}

pub raised_no : (slots n : ℕ) (old now : List ℕ) → has slots n ≡ false → IsRaisedBelow slots n old now → IsRaisedBelow slots (n + 1) old now
raised_no slots n old now other raised = record {
  done = λ k low. elim (cases_lt k n) [
    | inl below ↦ raised.done k below
    | inr above ↦
        let e : k ≡ n = omega arith in
        raised.left k (omega arith) ∙ sym (ap (λ b. cond b (get_or old k 0 + 1) (get_or old k 0)) (ap (has slots) e ∙ other))
  ];
  left = λ k far. raised.left k (omega arith);
}

-- the counts, of which those of the set have risen
abbrev pub raised_by : ℕ → List ℕ → List ℕ
raised_by slots old = each_slot (λ k. cond (has slots k) (get_or old k 0 + 1) (get_or old k 0))

module _ {P E R O : Type 0} (m : Meaning P E R O) (laws : IsLawful m) where
  -- the slots that a command makes fall
  abbrev falls : Machine P → Command E → ℕ → Bool
  falls st Apply k = is_hit m st k
  falls st Cancel k = is_started (mode_of st k)
  falls st (Edit e) k = false
  falls st Export k = false
  falls st Status k = false
  falls st (After s n) k = false

  epochs_stay : (st : Machine P) → length st.epochs ≡ 100 → epochs_after st (λ k. false) ≡ st.epochs
  epochs_stay st long = sym (is_each_slot (λ k. epoch_of st k) st.epochs 0 long (λ k low. refl))

  epochs_are : (st : Machine P) (c : Command E) → length st.epochs ≡ 100 → epochs_after st (falls st c) ≡ (after_command m st c).epochs
  epochs_are st Apply long = refl
  epochs_are st Cancel long = refl
  epochs_are st (Edit e) long = epochs_stay st long
  epochs_are st Export long = epochs_stay st long
  epochs_are st Status long = epochs_stay st long
  epochs_are st (After s n) long = epochs_stay st long

  module _ {T J B : Type 0} where
    fell : (st : Machine P) (c : Command E) (r : Reply T P E R O J B) (stopped fallen : ℕ) → ((k : ℕ) → has stopped k ≡ is_started (mode_of st k))
        → Replies m st c r → HasFallen r stopped fallen → (k : ℕ) → k < 100 → has fallen k ≡ falls st c k
    fell st Apply Unchanged stopped fallen were replies is = λ k low. is k ∙ sym (none_hit m laws st k replies)
    fell st Apply Changed stopped fallen were replies is = λ k low. is k ∙ sym (replies.1 k low)
    fell st Apply (Invalidated set) stopped fallen were replies is = λ k low. ap (λ s. has s k) is ∙ replies.1 k
    fell st Apply r stopped fallen were replies is = absurd replies
    fell st Cancel (Cancelled n) stopped fallen were replies is = λ k low. ap (λ s. has s k) is ∙ were k
    fell st Cancel r stopped fallen were replies is = absurd replies
    fell st (Edit e) (Invalidated set) stopped fallen were replies is = absurd replies
    fell st (Edit e) (Cancelled n) stopped fallen were replies is = absurd replies
    fell st (Edit e) r stopped fallen were replies is = λ k low. is k
    fell st Export (Invalidated set) stopped fallen were replies is = absurd replies
    fell st Export (Cancelled n) stopped fallen were replies is = absurd replies
    fell st Export r stopped fallen were replies is = λ k low. is k
    fell st Status (Invalidated set) stopped fallen were replies is = absurd replies
    fell st Status (Cancelled n) stopped fallen were replies is = absurd replies
    fell st Status r stopped fallen were replies is = λ k low. is k
    fell st (After s n) (Invalidated set) stopped fallen were replies is = absurd replies
    fell st (After s n) (Cancelled m) stopped fallen were replies is = absurd replies
    fell st (After s n) r stopped fallen were replies is = λ k low. is k

    -- counts that are the epochs are so after a call, once those of the slots that fell have risen
    pub counted_after : (st : Machine P) (c : Command E) (r : Reply T P E R O J B) (stopped fallen : ℕ) (counts : List ℕ) → length counts ≡ 100 → counts ≡ st.epochs
        → ((k : ℕ) → has stopped k ≡ is_started (mode_of st k)) → Replies m st c r → HasFallen r stopped fallen → raised_by fallen counts ≡ (after_command m st c).epochs
    counted_after st c r stopped fallen counts long same were replies is =
        ap (raised_by fallen) same
        ∙ is_each_slot (λ k. cond (falls st c k) (epoch_of st k + 1) (epoch_of st k)) (raised_by fallen st.epochs) 0
        (length-each_slot (λ k. cond (has fallen k) (epoch_of st k + 1) (epoch_of st k)))
        (λ k low. get_or-each_slot (λ j. cond (has fallen j) (epoch_of st j + 1) (epoch_of st j)) k 0 low
        ∙ ap (λ b. cond b (epoch_of st k + 1) (epoch_of st k)) (fell st c r stopped fallen were replies is k low))
        ∙ epochs_are st c (sym (ap length same) ∙ long)
