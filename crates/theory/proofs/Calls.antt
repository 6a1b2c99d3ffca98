-- A call of a list as it was made: what it finds is fit, it was answered as the rules say, and it leaves a
-- fit memory.
use mathlib.Core.Path.{◌≡◌, refl, sym, ap, ◌∙◌, subst}
use Prim.Native.Nat.{ℕ}
use Rattle.rules.specs.Heap.{Memory, with_waiting}
use Rattle.rules_calls.specs.Calls.{Answer, answer}
use Rattle.rules_calls.specs.Promise.{Promise}
use Rattle.theory.specs.CallWords.{Made}
use Rattle.theory.specs.Demand.{Finds}
use Rattle.theory_memories.proofs.Memories.Fit.{Fit}
use Rattle.theory_memories.proofs.Memories.ViewRelease.{reshaped}
use Rattle.theory_memories.proofs.Memories.TidyHeap.{waiting_untidy}
use Rattle.theory.proofs.EachCall.Served.{Served}
use Rattle.theory.proofs.EachCall.Answers.{answer-served, answer-fit}

-- what a call finds is fit if what the one before it left is
pub finds_fit : (N w : ℕ) {h g : Memory} → Finds N h g → Fit N w h → Fit N w g
finds_fit N w {h} {g} finds fit =
    let healthy = fit.healthy in
    subst (λ (k : Memory). Fit N w k) (ap (with_waiting g.waiting) (sym finds.same_heap))
    (record {
      healthy = record {
        shape = reshaped N w h (with_waiting g.waiting h) healthy.shape refl refl refl refl refl
            (finds.space ∙ sym healthy.shape.length_waiting) refl refl refl refl;
        represents = healthy.represents;
        whole = healthy.whole;
        aligned = healthy.aligned;
        bare = healthy.bare;
      };
      listed = fit.listed;
      tidy = waiting_untidy N g.waiting h ∙ fit.tidy;
    })

-- a call that kept its promise was answered as the rules say
pub promised :
    (N w : ℕ) (m : Made) → Promise N w m.call m.before m.reply m.after
    → ◌≡◌ {A = Answer} (m.reply, m.after) (answer N w m.before m.call)
promised N w m promise = λ i. (promise.reply_is i, promise.after_is i)

-- what is asked of one call, of a call that kept its promise
pub serves :
    (N w : ℕ) {h : Memory} → Fit N w h → (m : Made) → Finds N h m.before → Promise N w m.call m.before m.reply m.after
    → Served N w m.call m.before (m.reply, m.after)
serves N w fit m finds promise =
    subst (λ (x : Answer). Served N w m.call m.before x) (sym (promised N w m promise))
    (answer-served N w m.before (finds_fit N w finds fit) m.call)

-- and it leaves a fit memory
pub stays_fit :
    (N w : ℕ) {h : Memory} → Fit N w h → (m : Made) → Finds N h m.before → Promise N w m.call m.before m.reply m.after
    → Fit N w m.after
stays_fit N w fit m finds promise =
    subst (λ (k : Memory). Fit N w k) (sym promise.after_is) (answer-fit N w m.before (finds_fit N w finds fit) m.call)
