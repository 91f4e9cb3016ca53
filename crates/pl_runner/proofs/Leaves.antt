-- What a closing turn leaves of a runner that was in order with its work.
use Rattle.std.proofs.Common.{◌≡◌, ℕ, true, List, [], ◌∷◌, ◌++◌, ap, sym, subst, ◌∙◌, None, append_assoc}
use Rattle.std.specs.declared.option.Option.{Option}
use Rattle.pl_tech.specs.Technology.{Meaning}
use Rattle.pl_ports.specs.declared.gate.Actor.{Actor}
use Rattle.pl_machine.specs.declared.entry.Command.{Command}
use Rattle.pl_machine.specs.declared.entry.What.{What}
use Rattle.pl_machine.specs.declared.entry.Entry.{Entry}
use Rattle.pl_machine.specs.History.{IsLegal}
use Rattle.pl_machine.specs.Tickets.{HasNotClosed, StandsIn, closes, number_of, start_of}
use Rattle.pl_order.specs.Order.{Work, IsInOrder}
use Rattle.pl_order.proofs.Own.{HasNoneOf, none_of}
use Rattle.pl_order.proofs.Others.{found_keep}
use Rattle.pl_order.proofs.Steps.{closing_keeps}
use Rattle.pl_runner.proofs.Went.{Finds, same, none_of_it}

module _ {T P E R O J B : Type 0} where
  not_closed : (actor : Actor) (es : List (Entry T P E R O J B)) → HasNoneOf (number_of actor) es → HasNotClosed actor es
  not_closed actor [] none = tt
  not_closed actor (e ∷ es) none = ((λ same. absurd (none.0 (ap number_of same))), not_closed actor es none.1)

  closed_on : (actor : Actor) (xs ys : List (Entry T P E R O J B)) → HasNotClosed actor xs → HasNotClosed actor ys → HasNotClosed actor (xs ++ ys)
  closed_on actor [] ys first then = then
  closed_on actor (x ∷ xs) ys first then = (first.0, closed_on actor xs ys first.1 then)

  module _ (actor : Actor) {seen own log : List (Entry T P E R O J B)} (found : Finds actor seen own log) where
    module _ (m : Meaning P E R O) where
      -- its work stands in the journal that its turn finds
      pub still_stands : (slot epoch : ℕ) (value : O) → StandsIn m seen actor slot epoch value → StandsIn m log actor slot epoch value
      still_stands slot epoch value stands =
          record {
            before = stands.before;
            rest = stands.rest ++ found.prefix.0;
            split = sym found.prefix.1 ∙ ap (λ l. l ++ found.prefix.0) stands.split ∙ append_assoc (stands.before ++ start_of actor slot epoch ∷ []) stands.rest found.prefix.0;
            unclosed = closed_on actor stands.rest found.prefix.0 stands.unclosed (not_closed actor found.prefix.0 (none_of actor found.prefix.0 (none_of_it actor found)));
            value_is = stands.value_is;
          }

      module _ (commands : List (Command E)) (work : Option (Work O)) (order : IsInOrder m commands actor seen work) where
        -- a turn without an entry
        pub unchanged : (log' seen' : List (Entry T P E R O J B)) → IsLegal m log → log' ≡ log → seen' ≡ log' → IsInOrder m commands actor seen' work
        unchanged log' seen' legal stays is =
            subst (λ h. IsInOrder m commands actor h work) (sym (is ∙ stays)) (found_keep m commands actor seen log work order found.prefix (same actor found) legal)

        -- a turn that closes the work
        pub closed : (log' seen' : List (Entry T P E R O J B)) (w : What T P E R O J B) → closes w ≡ true → IsLegal m log → IsLegal m log'
            → log' ≡ log ++ record { actor = actor; what = w } ∷ [] → seen' ≡ log' → IsInOrder m commands actor seen' None
        closed log' seen' w closing legal legal' grown is =
            subst (λ h. IsInOrder m commands actor h None) (sym (is ∙ grown))
            (closing_keeps m commands actor log work w (found_keep m commands actor seen log work order found.prefix (same actor found) legal) closing (subst (IsLegal m) grown legal'))
