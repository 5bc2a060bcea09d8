-- What is promised of an asked address holds of every call that keeps the contract of our function, and through the struct of C of every
-- call that keeps that of our exported one; and no other call meets it. Assumes nothing.
use mathlib.Core.Path.{◌≡◌, refl, sym, ◌∙◌, ap, subst, fun_ext}
use mathlib.Core.List.{List, []}
use mathlib.Core.Logic.{inl, inr, ⊎_elim}
use Prim.Native.Nat.{ℕ}
use Rattle.numbers.specs.Start.{distance}
use Rattle.accept.proofs.Exactly.{accepted_exactly_when}
use Rattle.lookup.specs.Computed.Answers.{lookup_of}
use Rattle.lookup.specs.Outcome.{Answer}
use Rattle.ask.specs.AskAnswer.{AskAnswer}
use Rattle.ask.specs.Numbers.{SameAnswer}
use Rattle.ask.specs.Computed.Ask.{ask_of}
use Rattle.ask.proofs.Agreement.{ask_agrees}
use Rattle.ask.proofs.AsLookup.{ask_as_lookup}
use Rattle.ask.proofs.Exactly.{answer_exactly_when, ask_due, ask_given, number_0_exactly_when, never_disputed, never_9_to_15, row_means, no_row_means, no_function_means}
use Rattle.ask.proofs.ReadLaws.{read_inside, no_row_read, at_most_428}
use Rattle.suntimpani.specs.Asked.{flat_asked}
use Rattle.suntimpani.specs.Flat.{flat_answer}
use Rattle.suntimpani.proofs.AskLossless.{ask_read_back}
use Rattle.promises.specs.AskCall.{AskCall, NumberAsked, AnswerMeans, ReadsLittle, Asks, KeepsAsk, AskPromised, FlatAskCall, exported_ask, FlatAsks, KeepsFlatAsk, FlatAskPromised}
use Rattle.promises.specs.Exported.{flat_calls, exported}
use Rattle.promises.specs.Computed.Ours.{ours}
use Rattle.promises.specs.Inner.Lent.{lent}
use Rattle.promises.proofs.ContractLaws.{somewhere}
use Rattle.promises.proofs.ExportedKept.{flat_are_exported}
use Rattle.promises.proofs.Kept.{kept_are_ours}
use Rattle.promises.proofs.Replies.{ask_replied}

-- ---- our own

module _ (s : List ℕ) (address pc : ℕ) where
  number-asked : NumberAsked s address pc (ask_of s address pc)
  number-asked =
      record {
        given = ask_given s address pc;
        found = number_0_exactly_when s address pc;
        no_other = ⊎_elim inl (λ due. inr (due.0, due.1)) (ask_due s address pc);
        never_22 = never_disputed s address pc;
        never_9_to_15 = never_9_to_15 s address pc;
      }

  answer-means : AnswerMeans s address pc (ask_of s address pc)
  answer-means =
      record {
        case = answer_exactly_when s address pc;
        row = row_means s address pc;
        no_row = no_row_means s address pc;
        no_function = no_function_means s address pc;
        rows_unread = no_row_read s address pc;
      }

  reads-little : ReadsLittle s address pc
  reads-little = record { inside = read_inside s address pc; few = at_most_428 s (distance address pc) }

pub our_asks : Asks ask_of lookup_of
our_asks =
    record {
      number = number-asked;
      means = answer-means;
      little = reads-little;
      agrees = λ s t long address pc same. ask_agrees s t address pc long same;
      as_lookup = λ s obeys sorted address pc. ask_as_lookup s ((accepted_exactly_when s).1 obeys) sorted address pc;
    }

-- ---- the contract

pub ask_kept : KeepsAsk ask_of
ask_kept κs a = let it = ask_replied a.0.now a.1.0 a.1.1.0 in (it.0, it.1, it.1)

-- a call that keeps it is ours
kept_is_ours : (call : AskCall) → KeepsAsk call → call ≡ ask_of
kept_is_ours call keeps =
    fun_ext λ s. fun_ext λ address. fun_ext λ pc. let it = keeps ([], tt) (lent somewhere s, (address, (pc, tt))) in sym it.1 ∙ it.2

pub ask_promised : AskPromised
unfolding ours
ask_promised call calls keeps looks =
    subst (λ lookup. Asks call lookup) (sym (ap (λ c. c.lookup) (kept_are_ours calls looks)))
    (subst (λ c. Asks c lookup_of) (sym (kept_is_ours call keeps)) our_asks)

-- no other call meets it
pub ask_ours_alone : (call : AskCall) (lookup : List ℕ → ℕ → ℕ → Answer) → Asks call lookup → call ≡ ask_of
ask_ours_alone call lookup asks =
    fun_ext λ s. fun_ext λ address. fun_ext λ pc.
    ((asks.means s address pc).case (ask_of s address pc)).1 ((answer_exactly_when s address pc (ask_of s address pc)).0 refl)

-- ---- through the struct

-- the same values make the same struct
same_struct : (asked : AskAnswer) (looked : Answer) → SameAnswer asked looked → flat_asked asked ≡ flat_answer looked
unfolding flat_asked flat_answer
same_struct asked looked same = rw (same.number, same.indexes, same.row, same.compared)

pub exported_asks : FlatAsks exported_ask exported.lookup
unfolding exported_ask exported flat_calls ours
exported_asks =
    record {
      flattened = λ s address pc. ap flat_asked (sym (ask_read_back s address pc));
      number = λ s address pc. rw (ask_read_back s address pc) (number-asked s address pc);
      means = λ s address pc. rw (ask_read_back s address pc) (answer-means s address pc);
      agrees = λ s t long address pc same. ap flat_asked (ask_agrees s t address pc long same);
      as_lookup = λ s obeys sorted address pc.
          same_struct (ask_of s address pc) (lookup_of s address pc) (ask_as_lookup s ((accepted_exactly_when s).1 obeys) sorted address pc);
    }

pub flat_ask_kept : KeepsFlatAsk exported_ask
unfolding exported_ask
flat_ask_kept κs a = refl

kept_is_exported : (flat : FlatAskCall) → KeepsFlatAsk flat → flat ≡ exported_ask
unfolding exported_ask
kept_is_exported flat keeps = fun_ext λ s. fun_ext λ address. fun_ext λ pc. keeps ([], tt) (lent somewhere s, (address, (pc, tt)))

pub flat_ask_promised : FlatAskPromised
flat_ask_promised flat calls keeps looks =
    subst (λ lookup. FlatAsks flat lookup) (sym (ap (λ c. c.lookup) (flat_are_exported calls looks)))
    (subst (λ f. FlatAsks f exported.lookup) (sym (kept_is_exported flat keeps)) exported_asks)
