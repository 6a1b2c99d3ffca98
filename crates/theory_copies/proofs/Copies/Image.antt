-- A memory that holds the copies of the objects that the first heap's roots lead to, and nothing else: what they name and what leads to them.
use mathlib.Core.Path.{◌≡◌, refl, sym, ap, ◌∙◌, subst}
use mathlib.Core.Logic.{◌≢◌, inl, inr}
use mathlib.Core.Bool.{true, false}
use mathlib.Core.List.{List, [], ◌∷◌}
use Prim.Native.Nat.{ℕ, zero, suc, ◌+◌, ◌-◌, ◌*◌, ◌≤◌, ◌<◌}
use native.Mathlib.Decide.{ℕ_discrete}
use native.Mathlib.Omega.{arith}
use lib.Dec.{eqb}
use lib.ListN.{length, get_or}
use borrow.Author.Tests.{eq-eqb, ne_eqb}
use Rattle.bitmap.specs.Bit.{bit_at}
use Rattle.rules.specs.Heap.{Memory, is_first, size_at, is_data, reference}
use Rattle.rules_output.specs.Walk.{number_in, block_at, numbered}
use Rattle.rules_copy.specs.Copy.{size_of, new_reference, new_cell}
use Rattle.rules.proofs.Tests.{test_cases_lem}
use Rattle.rules.proofs.Objects.{first_facts, size_some}
use Rattle.theory_memories.specs.Words.{Object, Leads, root, cell}
use Rattle.theory_walks.specs.Shape.{Numbered, AllMet, moved, Paired}
use Rattle.theory_memories.proofs.Maps.Extents.{Represents}
use Rattle.theory_memories.proofs.Memories.Reading.{data_read, ordinary_read}
use Rattle.theory_memories.proofs.Memories.Leads.{object_size, size_object}
use Rattle.theory_walks.proofs.Walks.Numbers.{number_zero}
use Rattle.theory_walks.proofs.Walks.Equal.{moved_zero, moved_some}
use Rattle.theory_walks.proofs.Walks.Reached.{led_first, Named, root_led, cell_led, numbered_distinct, all_met}

-- ---- references of the copy

pub new_none : (places : List ℕ) (n : ℕ) → n ≡ 0 → new_reference places n ≡ 0
unfolding new_reference
new_none places n e = rw (eq-eqb n 0 e, new_reference)

pub new_some : (places : List ℕ) (n i : ℕ) → n ≡ suc i → new_reference places n ≡ 1 + get_or places i 0
unfolding new_reference
new_some places n i e =
    let before : n - 1 ≡ i = omega arith in
    rw (ne_eqb n 0 (omega arith), new_reference) (ap (λ (k : ℕ). 1 + get_or places k 0) before)

-- a cell of data, and one of another object
pub cell_data : (h : Memory) (met places : List ℕ) (b j : ℕ) → is_data h.d b ≡ true → new_cell h met places b j ≡ get_or h.cells (4 * b + j) 0
unfolding new_cell
cell_data h met places b j e = rw (e, new_cell)

pub cell_other :
    (h : Memory) (met places : List ℕ) (b j : ℕ) → is_data h.d b ≡ false
    → new_cell h met places b j ≡ new_reference places (number_in met (get_or h.cells (4 * b + j) 0))
unfolding new_cell
cell_other h met places b j e = rw (e, new_cell)

-- where x first stands in a list
pub index_of : ℕ → List ℕ → ℕ
index_of x [] = 0
index_of x (y ∷ ys) = elim (eqb y x) [ true ↦ 0 | false ↦ suc (index_of x ys) ]

pub index_at : (l : List ℕ) → ((i j : ℕ) → i < j → j < length l → get_or l i 0 ≢ get_or l j 0) → (i : ℕ) → i < length l → index_of (get_or l i 0) l ≡ i
unfolding index_of
index_at [] distinct i l = absurd (omega arith)
index_at (y ∷ ys) distinct zero l = rw (eq-eqb y y refl, index_of)
index_at (y ∷ ys) distinct (suc i) l =
    rw (ne_eqb y (get_or ys i 0) (distinct 0 (suc i) (omega arith) l), index_of)
    (ap suc (index_at ys (λ a b u m. distinct (suc a) (suc b) (omega arith) (omega arith)) i (omega arith)))

-- ---- the image of a heap

pub record Image (N : ℕ) (h : Memory) (places : List ℕ) (M : ℕ) (sizes : List ℕ) (g : Memory) : Type 0 where
  pub represents : Represents M g.a g.b sizes
  pub long : length places ≡ length (numbered N h)
  pub size_at_lem : (i : ℕ) → i < length (numbered N h) → get_or sizes (get_or places i 0) 0 ≡ size_of N h (numbered N h) i
  pub only : (x : ℕ) → get_or sizes x 0 ≢ 0 → (i : ℕ) × (i < length (numbered N h)) × (x ≡ get_or places i 0)
  pub distinct : (i j : ℕ) → i < j → j < length (numbered N h) → get_or places i 0 ≢ get_or places j 0
  pub kind_at : (i : ℕ) → i < length (numbered N h) → bit_at g.d (get_or places i 0) ≡ bit_at h.d (block_at (numbered N h) (suc i))
  pub cell_at :
      (i j : ℕ) → i < length (numbered N h) → j < 4 * size_of N h (numbered N h) i
      → get_or g.cells (4 * get_or places i 0 + j) 0 ≡ new_cell h (numbered N h) places (block_at (numbered N h) (suc i)) j
  pub as_many : length g.roots ≡ length h.roots
  pub root_at : (r : ℕ) → get_or g.roots r 0 ≡ new_reference places (number_in (numbered N h) (get_or h.roots r 0))

module _ (N : ℕ) (h : Memory) (named : Named N h) where
  abbrev met : List ℕ
  met = numbered N h

  abbrev all : AllMet N h
  all = all_met N h named

  zero_number : number_in met 0 ≡ 0
  zero_number = number_zero (numbered_distinct N h named)

  pub led_sized : {b : ℕ} → Leads N h b → size_at N h b ≢ 0
  led_sized {b} led = size_some (N - b) h.b b (omega (arith, (first_facts N h.a h.b b (led_first N h led)).inside))

  -- each object that is copied has blocks
  pub met_sized : (i : ℕ) → i < length met → size_of N h met i ≢ 0
  met_sized i l z =
      let o = all.each_object i l in
      let is : block_at met (suc i) ≡ o.0 = omega (arith, o.2.object) in
      led_sized o.1 (ap (size_at N h) (sym is) ∙ z)

  module _ (places : List ℕ) where
    -- where the object at block b goes
    pub goes : ℕ → ℕ
    goes b = get_or places (number_in met (suc b) - 1) 0

    -- the object that goes to block p
    pub comes : ℕ → ℕ
    comes p = block_at met (suc (index_of p places))

    pub record Target (b : ℕ) : Type 0 where
      pub i : ℕ
      pub inside : i < length met
      pub number : number_in met (suc b) ≡ suc i
      pub block : block_at met (suc i) ≡ b
      pub place : goes b ≡ get_or places i 0

    goes_by : (b i : ℕ) → i < length met → Numbered met b (suc i) → Target b
    unfolding goes
    goes_by b i l n =
        let before : number_in met (suc b) - 1 ≡ i = omega (arith, n.number) in
        record {
          i = i;
          inside = l;
          number = n.number;
          block = omega (arith, n.object);
          place = ap (λ (k : ℕ). get_or places k 0) before;
        }

    pub led_goes : {b : ℕ} → Leads N h b → Target b
    led_goes {b} led = let n = all.each_number b led in goes_by b n.0 n.1 n.2

    -- the one of number i + 1
    pub record Source (i : ℕ) : Type 0 where
      pub block : ℕ
      pub is : block_at met (suc i) ≡ block
      pub led : Leads N h block
      pub place : goes block ≡ get_or places i 0

    pub source : (i : ℕ) → i < length met → Source i
    unfolding goes_by
    source i l =
        let o = all.each_object i l in
        let at = goes_by o.0 i l o.2 in
        record { block = o.0; is = at.block; led = o.1; place = at.place }

    -- a reference of h goes along with what it names
    pub new_moved : (x : ℕ) → (x ≢ 0 → Leads N h (x - 1)) → new_reference places (number_in met x) ≡ moved goes x
    new_moved x led = elim (ℕ_discrete x 0) [
      | yes e ↦ new_none places (number_in met x) (ap (number_in met) e ∙ zero_number) ∙ sym (moved_zero goes x e)
      | no s ↦
          let at = led_goes (led s) in
          let whole : suc (x - 1) ≡ x = omega arith in
          new_some places (number_in met x) at.i (ap (number_in met) (sym whole) ∙ at.number)
          ∙ ap (λ (p : ℕ). 1 + p) (sym at.place) ∙ sym (moved_some goes x s)
    ]

    module _ (M : ℕ) (sizes : List ℕ) (g : Memory) (image : Image N h places M sizes g) where
      -- ---- the objects of the image

      pub object_at_lem : (i : ℕ) → i < length met → Object M g (get_or places i 0) (size_of N h met i)
      object_at_lem i l =
          let at = image.size_at_lem i l in
          subst (λ (n : ℕ). Object M g (get_or places i 0) n) at
          (size_object M g sizes image.represents (get_or places i 0) (λ z. met_sized i l (sym at ∙ z)))

      pub object_only : (b n : ℕ) → Object M g b n → (i : ℕ) × (i < length met) × (b ≡ get_or places i 0)
      object_only b n object =
          let both = object_size M g sizes image.represents b n object in
          image.only b (λ z. both.1 (sym both.0 ∙ z))

      -- ---- what they name

      same_kind : (i : ℕ) → i < length met → is_data g.d (get_or places i 0) ≡ is_data h.d (block_at met (suc i))
      same_kind i l = ap (λ (x : ℕ). eqb x 1) (image.kind_at i l)

      cell_inside : (i j : ℕ) → i < length met → j < 4 * size_of N h met i
          → (4 * get_or places i 0 ≤ 4 * get_or places i 0 + j) × (4 * get_or places i 0 + j < 4 * get_or places i 0 + 4 * get_or sizes (get_or places i 0) 0)
      cell_inside i j l u = (omega arith, omega (arith, image.size_at_lem i l))

      pub reference_at :
          (i j : ℕ) → i < length met → j < 4 * size_of N h met i
          → reference M g (4 * get_or places i 0 + j) ≡ new_reference places (number_in met (reference N h (4 * block_at met (suc i) + j)))
      reference_at i j l u =
          let s = source i l in
          let object : Object N h (block_at met (suc i)) (size_of N h met i) =
          record { first = ap (is_first N h) s.is ∙ led_first N h s.led; size = refl } in
          let inside = cell_inside i j l u in
          elim (test_cases_lem (is_data h.d (block_at met (suc i)))) [
            | inl e ↦
                data_read M g.a g.b sizes image.represents g.d g.cells (get_or places i 0) (4 * get_or places i 0 + j) inside (same_kind i l ∙ e)
                ∙ sym (new_none places _ (ap (number_in met) (named.read.of_data (block_at met (suc i)) (size_of N h met i) j object e u) ∙ zero_number))
            | inr e ↦
                ordinary_read M g.a g.b sizes image.represents g.d g.cells (get_or places i 0) (4 * get_or places i 0 + j) inside (same_kind i l ∙ e)
                ∙ image.cell_at i j l u ∙ cell_other h met places (block_at met (suc i)) j e
                ∙ ap (λ (x : ℕ). new_reference places (number_in met x)) (sym (named.read.of_others (block_at met (suc i)) (size_of N h met i) j object e u))
          ]

      -- ---- what leads to them

      pub led_along : {b : ℕ} → Leads N h b → Leads M g (goes b)
      led_along (root b n r object l e) =
          let at = led_goes (root b n r object l e) in
          let held : get_or h.roots r 0 ≡ suc b = omega arith in
          let holds = image.root_at r ∙ new_some places _ at.i (ap (number_in met) held ∙ at.number) in
          root (goes b) (size_of N h met at.i) r (rw at.place (object_at_lem at.i at.inside)) (omega (arith, image.as_many))
          (holds ∙ ap (λ (p : ℕ). 1 + p) (sym at.place))
      led_along (cell b n a m j object before owner l e) =
          let at = led_goes (cell b n a m j object before owner l e) in
          let from = led_goes before in
          let size : size_of N h met from.i ≡ m = ap (size_at N h) from.block ∙ owner.size in
          let u : j < 4 * size_of N h met from.i = omega arith in
          let held : reference N h (4 * block_at met (suc from.i) + j) ≡ suc b =
          ap (λ (x : ℕ). reference N h (4 * x + j)) from.block ∙ omega arith in
          let holds =
          ap (λ (p : ℕ). reference M g (4 * p + j)) from.place ∙ reference_at from.i j from.inside u
          ∙ new_some places _ at.i (ap (number_in met) held ∙ at.number) in
          cell (goes b) (size_of N h met at.i) (goes a) (size_of N h met from.i) j (rw at.place (object_at_lem at.i at.inside))
          (led_along before) (rw from.place (object_at_lem from.i from.inside)) u (holds ∙ ap (λ (p : ℕ). 1 + p) (sym at.place))

      -- everything in the image is led to
      pub all_led : (b n : ℕ) → Object M g b n → Leads M g b
      all_led b n object =
          let at = object_only b n object in
          let s = source at.0 at.1 in
          subst (Leads M g) (s.place ∙ sym at.2) (led_along s.led)

      -- ---- the pairing

      image_first : {c : ℕ} → Leads M g c → (n : ℕ) × Object M g c n
      image_first (root b n r object l e) = (n, object)
      image_first (cell b n a m j object before owner l e) = (n, object)

      comes_at : (i : ℕ) → i < length met → comes (get_or places i 0) ≡ block_at met (suc i)
      unfolding comes
      comes_at i l =
          ap (λ (k : ℕ). block_at met (suc k))
          (index_at places (λ a b u m. image.distinct a b u (omega (arith, image.long))) i (omega (arith, image.long)))

      again : (c : ℕ) → Leads M g c → Leads N h (comes c) × (goes (comes c) ≡ c)
      again c led =
          let object = image_first led in
          let at = object_only c object.0 object.1 in
          let s = source at.0 at.1 in
          let is : comes c ≡ s.block = ap comes at.2 ∙ comes_at at.0 at.1 ∙ s.is in
          (subst (Leads N h) (sym is) s.led, ap goes is ∙ s.place ∙ sym at.2)

      pub paired : Paired N h M g
      paired = record {
        to = goes;
        back = comes;
        there = λ b led.
            let at = led_goes led in
            (led_along led, ap comes at.place ∙ comes_at at.i at.inside ∙ at.block);
        again = again;
        number = sym image.as_many;
        roots = λ r l. image.root_at r ∙ new_moved (get_or h.roots r 0) (root_led N h named r);
        sizes = λ b led.
            let at = led_goes led in
            ap (size_at M g) at.place ∙ (object_at_lem at.i at.inside).size ∙ ap (size_at N h) at.block;
        bits = λ b led.
            let at = led_goes led in
            ap (bit_at g.d) at.place ∙ image.kind_at at.i at.inside ∙ ap (bit_at h.d) at.block;
        references = λ b j led l.
            let at = led_goes led in
            let u : j < 4 * size_of N h met at.i = omega (arith, ap (size_at N h) at.block) in
            ap (λ (p : ℕ). reference M g (4 * p + j)) at.place ∙ reference_at at.i j at.inside u
            ∙ ap (λ (x : ℕ). new_reference places (number_in met (reference N h (4 * x + j)))) at.block
            ∙ new_moved (reference N h (4 * b + j)) (cell_led N h named led j l);
        numbers = λ b j led kind l.
            let at = led_goes led in
            let u : j < 4 * size_of N h met at.i = omega (arith, ap (size_at N h) at.block) in
            ap (λ (p : ℕ). get_or g.cells (4 * p + j) 0) at.place ∙ image.cell_at at.i j at.inside u
            ∙ cell_data h met places (block_at met (suc at.i)) j (ap (is_data h.d) at.block ∙ kind)
            ∙ ap (λ (x : ℕ). get_or h.cells (4 * x + j) 0) at.block;
      }

      -- the object of number i + 1 goes to its place
      pub paired_at : (i : ℕ) → i < length met → paired.to (block_at met (suc i)) ≡ get_or places i 0
      unfolding paired
      paired_at i l = let s = source i l in ap goes s.is ∙ s.place
