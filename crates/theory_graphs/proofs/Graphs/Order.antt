-- The order in which waiting objects are freed makes no difference: two runs from one graph that leave nothing waiting end in the same
-- graph. By the keep lemma the second run keeps what the first one left, and the first what the second left, so neither has freed an object
-- or cleared a slot that the other has not. The counts then follow from the slots.
use mathlib.Core.Path.{◌≡◌, refl, sym, ap, ◌∙◌}
use mathlib.Core.Logic.{◌≢◌, ◌⊎◌, inl, inr}
use mathlib.Core.List.{List, []}
use Prim.Native.Nat.{ℕ, zero, suc, ◌+◌, ◌≤◌, ◌<◌}
use native.Mathlib.Decide.{ℕ_discrete, dec_lt}
use native.Mathlib.Omega.{arith}
use lib.ListN.{length, get_or, length-set, get_or-eq_default}
use lib.Seq.{get_or-set_other, ext_get_or}
use Rattle.theory_graphs.proofs.Graphs.Occurrences.{equals, equals_none, occurrences, occurrences_find}
use Rattle.theory_graphs.proofs.Graphs.Stretch.{side, stretch_length, set_zero}
use Rattle.theory_graphs.proofs.Graphs.Graph.{Graph, size, count, slot, first_slot, slots_of, Owns, count_down, count_down_each, let_go, free}
use Rattle.theory_graphs.proofs.Graphs.Graph.{lowered_le, count_down_same, count_down_other, count_down_length}
use Rattle.theory_graphs.proofs.Graphs.Balance.{Balanced, Waits, all_counted, let_go_balanced, free_balanced}
use Rattle.theory_graphs.proofs.Graphs.Keep.{Runs, done, free_one, let_go_lem, Kept, runs_kept, count_down_stuck, free_size_same, free_size_other}
use Rattle.theory_graphs.proofs.Graphs.Keep.{free_slot_in, free_slot_out, free_stuck}

pub runs_balanced : (cap r : ℕ) (S : ℕ → Type 0) (pos : 0 < cap) {h k : Graph} → Runs cap r S h k → Balanced cap h 0 → Balanced cap k 0
runs_balanced cap r S pos done balanced = balanced
runs_balanced cap r S pos {h} (free_one x n z rest) balanced = runs_balanced cap r S pos rest (free_balanced cap pos r h x z balanced)
runs_balanced cap r S pos {h} (let_go_lem i q rest) balanced = runs_balanced cap r S pos rest (let_go_balanced cap pos h i balanced)

-- ---- what a run leaves of a graph

-- the object at x stands as it was; or it is gone, and its slots are 0
abbrev pub Stands : ℕ → Graph → Graph → ℕ → Type 0
Stands r h k x = (size k x ≡ size h x) ⊎ ((size k x ≡ 0) × ((s : ℕ) → Owns r h.sizes x s → slot k s ≡ 0))

-- slot s is as it was, or 0
abbrev pub Same : Graph → Graph → ℕ → Type 0
Same h k s = (slot k s ≡ slot h s) ⊎ (slot k s ≡ 0)

pub record Leaves (cap r : ℕ) (h k : Graph) : Type 0 where
  pub objects : (x : ℕ) → Stands r h k x
  pub references : (s : ℕ) → Same h k s
  pub lowered : (b : ℕ) → count k b ≤ count h b
  pub stuck : (b : ℕ) → count h b ≡ cap → count k b ≡ cap
  pub sizes_length : length k.sizes ≡ length h.sizes
  pub counts_length : length k.counts ≡ length h.counts
  pub slots_length : length k.slots ≡ length h.slots

leaves_refl : (cap r : ℕ) (h : Graph) → Leaves cap r h h
leaves_refl cap r h =
    record {
      objects = λ x. inl refl;
      references = λ s. inl refl;
      lowered = λ b. omega arith;
      stuck = λ b e. e;
      sizes_length = refl;
      counts_length = refl;
      slots_length = refl;
    }

leaves_trans : (cap r : ℕ) (h k m : Graph) → Leaves cap r h k → Leaves cap r k m → Leaves cap r h m
leaves_trans cap r h k m p q =
    record {
      objects = λ x. both x (p.objects x) (q.objects x);
      references = λ s. elim (q.references s) [ inl e ↦ rw e (p.references s) | inr e ↦ inr e ];
      lowered = λ b. omega (arith, p.lowered b, q.lowered b);
      stuck = λ b e. q.stuck b (p.stuck b e);
      sizes_length = q.sizes_length ∙ p.sizes_length;
      counts_length = q.counts_length ∙ p.counts_length;
      slots_length = q.slots_length ∙ p.slots_length;
    }
  where
    still_zero : (s : ℕ) → slot k s ≡ 0 → slot m s ≡ 0
    still_zero s e = elim (q.references s) [ inl f ↦ f ∙ e | inr f ↦ f ]

    both : (x : ℕ) → Stands r h k x → Stands r k m x → Stands r h m x
    both x (inl e) (inl f) = inl (f ∙ e)
    both x (inl e) (inr f) = inr (f.0, λ s own. f.1 s (rw e own))
    both x (inr e) (inl f) = inr (f ∙ e.0, λ s own. still_zero s (e.1 s own))
    both x (inr e) (inr f) = inr (f.0, λ s own. still_zero s (e.1 s own))

pub count_down_le : (cap : ℕ) (counts : List ℕ) (v b : ℕ) → get_or (count_down cap counts v) b 0 ≤ get_or counts b 0
count_down_le cap counts v b =
    elim (ℕ_discrete v (suc b)) [
      | yes e ↦
          rw e
          (elim (dec_lt b (length counts)) [
            | yes l ↦ rw (count_down_same cap counts b l) (lowered_le cap (get_or counts b 0))
            | no l ↦ rw (past l) (omega arith)
          ])
      | no n ↦ omega (arith, count_down_other cap counts v b n)
    ]
  where
    past : ¬ (b < length counts) → get_or (count_down cap counts (suc b)) b 0 ≡ 0
    past l = get_or-eq_default (count_down cap counts (suc b)) 0 (omega (arith, count_down_length cap counts (suc b)))

count_down_each_le : (cap : ℕ) (counts slots : List ℕ) (i n b : ℕ) → get_or (count_down_each cap counts slots i n) b 0 ≤ get_or counts b 0
unfolding count_down_each
count_down_each_le cap counts slots i zero b = omega arith
count_down_each_le cap counts slots i (suc n) b =
    omega (arith, count_down_each_le cap counts slots i n b, count_down_le cap (count_down_each cap counts slots i n) (get_or slots (i + n) 0) b)

count_down_each_length : (cap : ℕ) (counts slots : List ℕ) (i n : ℕ) → length (count_down_each cap counts slots i n) ≡ length counts
unfolding count_down_each
count_down_each_length cap counts slots i zero = refl
count_down_each_length cap counts slots i (suc n) =
    count_down_length cap (count_down_each cap counts slots i n) (get_or slots (i + n) 0) ∙ count_down_each_length cap counts slots i n

free_leaves : (cap : ℕ) (pos : 0 < cap) (r : ℕ) (h : Graph) (x : ℕ) → Leaves cap r h (free cap r h x)
unfolding free
free_leaves cap pos r h x =
    record {
      objects =
          λ y.
          elim (ℕ_discrete y x) [
            | yes e ↦ inr (rw e (free_size_same cap r h x, λ s own. free_slot_in cap r h x s own))
            | no n ↦ inl (free_size_other cap r h x y n)
          ];
      references =
          λ s.
          elim (side (first_slot r x) (slots_of h x) s) [
            | inl own ↦ inr (free_slot_in cap r h x s own)
            | inr o ↦ inl (free_slot_out cap r h x s o)
          ];
      lowered = λ b. count_down_each_le cap h.counts h.slots (first_slot r x) (slots_of h x) b;
      stuck = λ b e. free_stuck cap r h x pos b e;
      sizes_length = length-set h.sizes x 0;
      counts_length = count_down_each_length cap h.counts h.slots (first_slot r x) (slots_of h x);
      slots_length = stretch_length (λ j. 0) (first_slot r x) h.slots (slots_of h x);
    }

let_go_leaves : (cap : ℕ) (pos : 0 < cap) (r : ℕ) (h : Graph) (i : ℕ) → Leaves cap r h (let_go cap h i)
let_go_leaves cap pos r h i =
    record {
      objects = λ y. inl refl;
      references =
          λ s.
          elim (ℕ_discrete s i) [
            | yes e ↦ inr (rw e (set_zero h.slots i))
            | no n ↦ inl (get_or-set_other h.slots i s 0 0 n)
          ];
      lowered = λ b. count_down_le cap h.counts (slot h i) b;
      stuck = λ b e. count_down_stuck cap pos h.counts (slot h i) b e;
      sizes_length = refl;
      counts_length = count_down_length cap h.counts (slot h i);
      slots_length = length-set h.slots i 0;
    }

pub runs_leave : (cap r : ℕ) (S : ℕ → Type 0) (pos : 0 < cap) {h k : Graph} → Runs cap r S h k → Leaves cap r h k
runs_leave cap r S pos {h} done = leaves_refl cap r h
runs_leave cap r S pos {h} {k} (free_one x n z rest) =
    leaves_trans cap r h (free cap r h x) k (free_leaves cap pos r h x) (runs_leave cap r S pos rest)
runs_leave cap r S pos {h} {k} (let_go_lem i q rest) =
    leaves_trans cap r h (let_go cap h i) k (let_go_leaves cap pos r h i) (runs_leave cap r S pos rest)

-- ---- two runs

-- a run to its end: nothing waits, and every slot of S is let go
pub record Ends (cap r : ℕ) (S : ℕ → Type 0) (h k : Graph) : Type 0 where
  pub runs : Runs cap r S h k
  pub waits : Waits k []
  pub dropped : (i : ℕ) → S i → slot k i ≡ 0

module _ (cap : ℕ) (pos : 0 < cap) (r : ℕ) (S : ℕ → Type 0) (h : Graph) (balanced : Balanced cap h 0) where
  -- what one run leaves at its end, another keeps
  other_keeps : (k m : Graph) → Ends cap r S h k → Runs cap r S h m → Kept cap (λ b. size k b ≢ 0) (λ s. slot k s ≢ 0) h m
  other_keeps k m end runs =
      runs_kept cap pos r S (λ b. size k b ≢ 0) (λ s. slot k s ≢ 0) h held apart (λ i q n. n (end.dropped i q)) runs balanced
    where
      leaves : Leaves cap r h k
      leaves = runs_leave cap r S pos end.runs

      after : Balanced cap k 0
      after = runs_balanced cap r S pos end.runs balanced

      held : (b : ℕ) → size k b ≢ 0 → (count h b ≡ cap) ⊎ ((s : ℕ) × (slot k s ≢ 0) × (slot h s ≡ suc b))
      held b n =
          elim (dec_lt (count k b) cap) [
            | yes l ↦
                let e = (after b).exact l in
                let c = all_counted k end.waits b n in
                let f = occurrences_find (suc b) k.slots (omega (arith, equals_none b)) in
                inr (
                  f.0,
                  omega (arith, f.2),
                  elim (leaves.references f.0) [ inl q ↦ sym q ∙ f.2 | inr q ↦ absurd (omega (arith, q, f.2)) ],
                )
            | no l ↦ inl (omega (arith, (after b).bounded, (balanced b).bounded, leaves.lowered b))
          ]

      apart : (x s : ℕ) → ¬ (size k x ≢ 0) → Owns r h.sizes x s → ¬ (slot k s ≢ 0)
      apart x s gone own n =
          elim (leaves.objects x) [ inl e ↦ gone (λ z. omega (arith, own, sym e ∙ z)) | inr e ↦ n (e.1 s own) ]

  module _ (k m : Graph) (end-k : Ends cap r S h k) (end-m : Ends cap r S h m) where
    left_k : Leaves cap r h k
    left_k = runs_leave cap r S pos end-k.runs

    left_m : Leaves cap r h m
    left_m = runs_leave cap r S pos end-m.runs

    m_keeps : Kept cap (λ b. size k b ≢ 0) (λ s. slot k s ≢ 0) h m
    m_keeps = other_keeps k m end-k end-m.runs

    k_keeps : Kept cap (λ b. size m b ≢ 0) (λ s. slot m s ≢ 0) h k
    k_keeps = other_keeps m k end-m end-k.runs

    same_slot : (s : ℕ) → slot k s ≡ slot m s
    same_slot s = go (left_k.references s) (left_m.references s)
      where
        go : Same h k s → Same h m s → slot k s ≡ slot m s
        go (inl e) (inl f) = e ∙ sym f
        go (inr e) (inr f) = e ∙ sym f
        go (inl e) (inr f) =
            elim (ℕ_discrete (slot k s) 0) [ yes z ↦ z ∙ sym f | no n ↦ e ∙ sym (m_keeps.slots_kept s n) ]
        go (inr e) (inl f) =
            elim (ℕ_discrete (slot m s) 0) [ yes z ↦ e ∙ sym z | no n ↦ k_keeps.slots_kept s n ∙ sym f ]

    same_size : (x : ℕ) → size k x ≡ size m x
    same_size x = go (m_keeps.kept_or_gone x) (k_keeps.kept_or_gone x)
      where
        go : (size m x ≡ size h x) ⊎ (size m x ≡ 0) → (size k x ≡ size h x) ⊎ (size k x ≡ 0) → size k x ≡ size m x
        go (inl e) (inl f) = f ∙ sym e
        go (inr e) (inr f) = f ∙ sym e
        go (inl e) (inr f) =
            elim (ℕ_discrete (size m x) 0) [ yes z ↦ f ∙ sym z | no n ↦ k_keeps.sizes_kept x n ∙ sym e ]
        go (inr e) (inl f) =
            elim (ℕ_discrete (size k x) 0) [ yes z ↦ z ∙ sym e | no n ↦ f ∙ sym (m_keeps.sizes_kept x n) ]

    same_slots : k.slots ≡ m.slots
    same_slots = ext_get_or 0 k.slots m.slots (left_k.slots_length ∙ sym left_m.slots_length) (λ s l. same_slot s)

    same_count : (b : ℕ) → count k b ≡ count m b
    same_count b =
        elim (dec_lt (count h b) cap) [
          | yes l ↦
              (runs_balanced cap r S pos end-k.runs balanced b).exact (omega (arith, left_k.lowered b))
              ∙ ap (λ (l : List ℕ). occurrences (suc b) l + equals 0 (suc b)) same_slots
              ∙ sym ((runs_balanced cap r S pos end-m.runs balanced b).exact (omega (arith, left_m.lowered b)))
          | no l ↦
              let e : count h b ≡ cap = omega (arith, (balanced b).bounded) in
              left_k.stuck b e ∙ sym (left_m.stuck b e)
        ]

    pub same_end : k ≡ m
    same_end =
        λ i.
        record {
          sizes = ext_get_or 0 k.sizes m.sizes (left_k.sizes_length ∙ sym left_m.sizes_length) (λ x l. same_size x) i;
          counts = ext_get_or 0 k.counts m.counts (left_k.counts_length ∙ sym left_m.counts_length) (λ x l. same_count x) i;
          slots = same_slots i;
        }
