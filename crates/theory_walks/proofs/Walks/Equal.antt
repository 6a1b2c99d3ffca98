-- Equal lists and paired heaps (request U13).
use mathlib.Core.Path.{◌≡◌, refl, sym, ap, ◌∙◌, subst}
use mathlib.Core.Logic.{◌≢◌, inl, inr}
use mathlib.Core.Bool.{true, false}
use mathlib.Core.List.{List, [], ◌∷◌, ◌++◌, map}
use Prim.Native.Nat.{ℕ, suc, ◌+◌, ◌-◌, ◌*◌, ◌<◌}
use native.Mathlib.Decide.{ℕ_discrete}
use native.Mathlib.Omega.{arith}
use lib.ListN.{length, get_or, length-map, get_or-map}
use lib.Seq.{ext_get_or}
use lib.Dec.{eqb}
use borrow.Author.Tests.{eq-eqb, ne_eqb}
use Rattle.bitmap.specs.Bit.{bit_at}
use Rattle.rules.specs.Heap.{Memory, size_at, is_data, reference}
use Rattle.rules_output.specs.Walk.{number_in, object_at, block_at, walk, references_of, followed, numbered}
use Rattle.rules_output.specs.Shape.{cells_of, described, joined, shape_of}
use Rattle.rules.proofs.Tests.{test_cases_lem}
use Rattle.rules.proofs.Tabulate.{length_tabulate, get_d_tabulate}
use Rattle.theory_memories.specs.Words.{Leads}
use Rattle.theory_walks.specs.Shape.{moved, Paired, EqualShape}
use Rattle.theory_walks.proofs.Walks.Numbers.{number_le, number_object, number_zero, object_number}
use Rattle.theory_walks.proofs.Walks.Alike.{Same, zeros, pair, Both, nil, cons, OneToOne, both_length, both_object, walk_same, written_same}
use Rattle.theory_walks.proofs.Walks.Joined.{append_apart, joined_front, joined_apart, joined_same, Block}
use Rattle.theory_walks.proofs.Walks.Reached.{references_length, references_at, followed_zero, followed_block, led_first, Named, intact_named}
use Rattle.theory_walks.proofs.Walks.Reached.{root_led, cell_led, numbered_distinct, met_led, led_met, walk_more}

pub moved_zero : (to : ℕ → ℕ) (v : ℕ) → v ≡ 0 → moved to v ≡ 0
moved_zero to v e = rw (eq-eqb v 0 e, moved) refl

pub moved_some : (to : ℕ → ℕ) (v : ℕ) → v ≢ 0 → moved to v ≡ 1 + to (v - 1)
moved_some to v s = rw (ne_eqb v 0 s, moved) refl

-- ---- one object

module _ (N : ℕ) (h : Memory) where
  pub cells_length : (b : ℕ) → length (cells_of N h b) ≡ 4 * size_at N h b
  unfolding cells_of
  cells_length b = length_tabulate (4 * size_at N h b) (λ j. get_or h.cells (4 * b + j) 0)

  pub cells_at : (b j : ℕ) → j < 4 * size_at N h b → get_or (cells_of N h b) j 0 ≡ get_or h.cells (4 * b + j) 0
  unfolding cells_of
  cells_at b j l = get_d_tabulate 0 (4 * size_at N h b) (λ j. get_or h.cells (4 * b + j) 0) j l

  module _ (met : List ℕ) (b : ℕ) where
    pub described_data : is_data h.d b ≡ true → described N h met b ≡ size_at N h b ∷ bit_at h.d b ∷ cells_of N h b
    unfolding described
    described_data e = rw (e, described) refl

    pub described_other : is_data h.d b ≡ false → described N h met b ≡ size_at N h b ∷ bit_at h.d b ∷ map (number_in met) (references_of N h b)
    unfolding described
    described_other e = rw (e, described) refl

    pub described_block : Block (described N h met b)
    described_block = elim (test_cases_lem (is_data h.d b)) [
      | inl e ↦ record { size = size_at N h b; bit = bit_at h.d b; rest = cells_of N h b; is = described_data e; long = cells_length b }
      | inr e ↦
          record {
            size = size_at N h b;
            bit = bit_at h.d b;
            rest = map (number_in met) (references_of N h b);
            is = described_other e;
            long = length-map (references_of N h b) (number_in met) ∙ references_length N h b;
          }
    ]

pub described_sizes :
    (N M : ℕ) (h g : Memory) (met met' : List ℕ) (b c : ℕ) → described N h met b ≡ described M g met' c
    → (size_at N h b ≡ size_at M g c) × (bit_at h.d b ≡ bit_at g.d c)
unfolding described
described_sizes N M h g met met' b c same = (cc, cc)

-- ---- what two equal lists say

pub record Alike (N : ℕ) (h : Memory) (M : ℕ) (g : Memory) : Type 0 where
  pub number : length h.roots ≡ length g.roots
  pub roots : map (number_in (numbered N h)) h.roots ≡ map (number_in (numbered M g)) g.roots
  pub objects : length (numbered N h) ≡ length (numbered M g)
  pub each :
      (i : ℕ) → i < length (numbered N h)
      → described N h (numbered N h) (block_at (numbered N h) (suc i)) ≡ described M g (numbered M g) (block_at (numbered M g) (suc i))

alike_sym : {N M : ℕ} {h g : Memory} → Alike N h M g → Alike M g N h
alike_sym a = record {
  number = sym a.number;
  roots = sym a.roots;
  objects = sym a.objects;
  each = λ i l. sym (a.each i (omega (arith, a.objects)));
}

module _ (N M : ℕ) (h g : Memory) where
  abbrev met : List ℕ
  met = numbered N h

  abbrev met' : List ℕ
  met' = numbered M g

  abbrev each : ℕ → List ℕ
  each i = described N h met (block_at met (suc i))

  abbrev each' : ℕ → List ℕ
  each' i = described M g met' (block_at met' (suc i))

  pub equal_alike : shape_of N h ≡ shape_of M g → Alike N h M g
  unfolding shape_of
  equal_alike same =
      let count : length h.roots ≡ length g.roots = cc in
      let tails : map (number_in met) h.roots ++ joined each (length met) ≡ map (number_in met') g.roots ++ joined each' (length met') = cc in
      let parts = append_apart (map (number_in met) h.roots) (map (number_in met') g.roots) (joined each (length met)) (joined each' (length met'))
      (length-map h.roots (number_in met) ∙ count ∙ sym (length-map g.roots (number_in met'))) tails in
      let objects = joined_apart each each' 0 (length met) (length met') (λ i. described_block N h met _) (λ i. described_block M g met' _)
      (sym (joined_front each (length met)) ∙ parts.1 ∙ joined_front each' (length met')) in
      record { number = count; roots = parts.0; objects = objects.0; each = λ i l. objects.1 i (omega arith) (omega arith) }

  alike_equal : Alike N h M g → shape_of N h ≡ shape_of M g
  unfolding shape_of
  alike_equal alike =
      let objects : joined each (length met) ≡ joined each' (length met') =
      joined_same each each' (length met) alike.each ∙ ap (joined each') alike.objects in
      cc (alike.number, alike.roots, objects)

-- equal lists of numbers have equal numbers
pub maps_at : (f f' : ℕ → ℕ) (l l' : List ℕ) → f 0 ≡ 0 → f' 0 ≡ 0 → map f l ≡ map f' l' → (j : ℕ) → f (get_or l j 0) ≡ f' (get_or l' j 0)
maps_at f f' l l' z z' same j =
    sym (get_or-map f l j 0)
    ∙ ap (λ (x : ℕ). get_or (map f l) j x) (z ∙ sym z')
    ∙ ap (λ (x : List ℕ). get_or x j (f' 0)) same
    ∙ get_or-map f' l' j 0

-- ---- from equal lists to a pairing: the object of the same number

pub partner_in : List ℕ → List ℕ → ℕ → ℕ
partner_in met met' b = object_at met' (number_in met (suc b)) - 1

module _ (N M : ℕ) (h g : Memory) (named : Named N h) (named' : Named M g) (alike : Alike N h M g) where
  abbrev partner : ℕ → ℕ
  partner b = partner_in (met N M h g) (met' N M h g) b

  pub record Partner (b : ℕ) : Type 0 where
    pub place : ℕ
    pub number : number_in (numbered N h) (suc b) ≡ suc place
    pub inside : place < length (numbered N h)
    pub object : object_at (numbered N h) (suc place) ≡ suc b
    pub other : object_at (numbered M g) (suc place) ≡ suc (partner b)
    pub number' : number_in (numbered M g) (suc (partner b)) ≡ suc place
    pub leads : Leads M g (partner b)

  pub partner_of : {b : ℕ} → Leads N h b → Partner b
  unfolding partner_in
  partner_of {b} led =
      let known = led_met N h named led in
      let n = known.0 in
      let low : n < length (numbered N h) = omega (arith, number_le (numbered N h) (suc b), known.1) in
      let back = object_number (numbered_distinct M g named') (suc n) (omega arith) (omega (arith, alike.objects)) in
      let u : ℕ = object_at (numbered M g) (suc n) in
      let led' = met_led M g named' u n back in
      let same : object_at (numbered M g) (number_in (numbered N h) (suc b)) ≡ u = ap (object_at (numbered M g)) known.1 in
      let is : partner b ≡ u - 1 = ap (λ (x : ℕ). x - 1) same in
      let whole : u ≡ suc (partner b) = omega (arith, led'.0) in
      record {
        place = n;
        number = known.1;
        inside = low;
        object = number_object (numbered N h) (suc b) n known.1;
        other = whole;
        number' = ap (number_in (numbered M g)) (sym whole) ∙ back;
        leads = subst (Leads M g) (sym is) led'.1;
      }

  -- references of equal numbers
  same_number :
      (v v' : ℕ) → (v ≢ 0 → Leads N h (v - 1)) → (v' ≢ 0 → Leads M g (v' - 1)) → number_in (numbered N h) v ≡ number_in (numbered M g) v'
      → v' ≡ moved partner v
  same_number v v' led led' same = elim (ℕ_discrete v 0) [
    | yes z ↦
        elim (ℕ_discrete v' 0) [
          | yes z' ↦ z' ∙ sym (moved_zero partner v z)
          | no s' ↦
              let known = led_met M g named' (led' s') in
              let whole : suc (v' - 1) ≡ v' = omega arith in
              absurd (omega (
                arith,
                known.1,
                ap (number_in (numbered M g)) whole,
                ap (number_in (numbered N h)) z,
                number_zero (numbered_distinct N h named),
              ))
        ]
    | no s ↦
        let p = partner_of (led s) in
        let whole : suc (v - 1) ≡ v = omega arith in
        let number : number_in (numbered M g) v' ≡ suc p.place = sym same ∙ ap (number_in (numbered N h)) (sym whole) ∙ p.number in
        sym (number_object (numbered M g) v' p.place number) ∙ p.other ∙ omega (arith, moved_some partner v s)
  ]

  -- lists of references that are written alike
  listed_same :
      (l l' : List ℕ) → map (number_in (numbered N h)) l ≡ map (number_in (numbered M g)) l' → (j : ℕ)
      → number_in (numbered N h) (get_or l j 0) ≡ number_in (numbered M g) (get_or l' j 0)
  listed_same l l' same j =
      maps_at (number_in (numbered N h)) (number_in (numbered M g)) l l' (number_zero (numbered_distinct N h named))
      (number_zero (numbered_distinct M g named')) same j

  pub roots_kept : (r : ℕ) → get_or g.roots r 0 ≡ moved partner (get_or h.roots r 0)
  roots_kept r =
      same_number (get_or h.roots r 0) (get_or g.roots r 0) (root_led N h named r) (root_led M g named' r)
      (listed_same h.roots g.roots alike.roots r)

  described_alike : {b : ℕ} → Leads N h b → described N h (numbered N h) b ≡ described M g (numbered M g) (partner b)
  described_alike {b} led =
      let p = partner_of led in
      let one : object_at (numbered N h) (suc p.place) - 1 ≡ b = omega (arith, p.object) in
      let two : object_at (numbered M g) (suc p.place) - 1 ≡ partner b = omega (arith, p.other) in
      ap (described N h (numbered N h)) (sym one) ∙ alike.each p.place p.inside ∙ ap (described M g (numbered M g)) two

  pub sizes_kept : {b : ℕ} → Leads N h b → (size_at N h b ≡ size_at M g (partner b)) × (bit_at h.d b ≡ bit_at g.d (partner b))
  sizes_kept {b} led = described_sizes N M h g (numbered N h) (numbered M g) b (partner b) (described_alike led)

  kind_kept : {b : ℕ} → Leads N h b → is_data g.d (partner b) ≡ is_data h.d b
  kind_kept led = ap (λ (x : ℕ). eqb x 1) (sym (sizes_kept led).1)

  pub references_kept :
      (b j : ℕ) → Leads N h b → j < 4 * size_at N h b → reference M g (4 * partner b + j) ≡ moved partner (reference N h (4 * b + j))
  references_kept b j led l =
      let p = partner_of led in
      let kept = sizes_kept led in
      let l' : j < 4 * size_at M g (partner b) = omega (arith, kept.0) in
      elim (test_cases_lem (is_data h.d b)) [
        | inl made ↦
            named'.read.of_data (partner b) (size_at M g (partner b)) j (record { first = led_first M g p.leads; size = refl }) (kind_kept led ∙ made) l'
            ∙ sym (moved_zero partner (reference N h (4 * b + j))
            (named.read.of_data b (size_at N h b) j (record { first = led_first N h led; size = refl }) made l))
        | inr other ↦
            let shown : size_at N h b ∷ bit_at h.d b ∷ map (number_in (numbered N h)) (references_of N h b)
            ≡ size_at M g (partner b) ∷ bit_at g.d (partner b) ∷ map (number_in (numbered M g)) (references_of M g (partner b)) =
            sym (described_other N h (numbered N h) b other) ∙ described_alike led
            ∙ described_other M g (numbered M g) (partner b) (kind_kept led ∙ other) in
            let lists : map (number_in (numbered N h)) (references_of N h b) ≡ map (number_in (numbered M g)) (references_of M g (partner b)) = cc in
            same_number (reference N h (4 * b + j)) (reference M g (4 * partner b + j)) (cell_led N h named led j l)
            (cell_led M g named' p.leads j l')
            (ap (number_in (numbered N h)) (sym (references_at N h b j l))
            ∙ listed_same (references_of N h b) (references_of M g (partner b)) lists j
            ∙ ap (number_in (numbered M g)) (references_at M g (partner b) j l'))
      ]

  pub numbers_kept :
      (b j : ℕ) → Leads N h b → is_data h.d b ≡ true → j < 4 * size_at N h b
      → get_or g.cells (4 * partner b + j) 0 ≡ get_or h.cells (4 * b + j) 0
  numbers_kept b j led made l =
      let kept = sizes_kept led in
      let shown : size_at N h b ∷ bit_at h.d b ∷ cells_of N h b ≡ size_at M g (partner b) ∷ bit_at g.d (partner b) ∷ cells_of M g (partner b) =
      sym (described_data N h (numbered N h) b made) ∙ described_alike led
      ∙ described_data M g (numbered M g) (partner b) (kind_kept led ∙ made) in
      let lists : cells_of N h b ≡ cells_of M g (partner b) = cc in
      sym (cells_at M g (partner b) j (omega (arith, kept.0))) ∙ ap (λ (x : List ℕ). get_or x j 0) (sym lists) ∙ cells_at N h b j l

partner_back :
    (N M : ℕ) (h g : Memory) (named : Named N h) (named' : Named M g) (alike : Alike N h M g) {b : ℕ} → Leads N h b
    → partner_in (numbered M g) (numbered N h) (partner_in (numbered N h) (numbered M g) b) ≡ b
unfolding partner_in
partner_back N M h g named named' alike {b} led =
    let p = partner_of N M h g named named' alike led in
    let back : object_at (numbered N h) (number_in (numbered M g) (suc (partner_in (numbered N h) (numbered M g) b))) ≡ suc b =
    ap (object_at (numbered N h)) p.number' ∙ p.object in
    omega (arith, back)

pub equal_paired : (N M : ℕ) (h g : Memory) → Named N h → Named M g → shape_of N h ≡ shape_of M g → Paired N h M g
equal_paired N M h g named named' same =
    let alike = equal_alike N M h g same in
    record {
      to = partner_in (numbered N h) (numbered M g);
      back = partner_in (numbered M g) (numbered N h);
      there = λ b led. ((partner_of N M h g named named' alike led).leads, partner_back N M h g named named' alike led);
      again = λ b led. (
        (partner_of M N g h named' named (alike_sym alike) led).leads,
        partner_back M N g h named' named (alike_sym alike) led,
      );
      number = alike.number;
      roots = λ r l. roots_kept N M h g named named' alike r;
      sizes = λ b led. sym (sizes_kept N M h g named named' alike led).0;
      bits = λ b led. sym (sizes_kept N M h g named named' alike led).1;
      references = references_kept N M h g named named' alike;
      numbers = numbers_kept N M h g named named' alike;
    }

-- ---- from a pairing to equal lists

both_at : (R : ℕ → ℕ → Type 0) (l l' : List ℕ) → length l ≡ length l' → ((j : ℕ) → j < length l → R (get_or l j 0) (get_or l' j 0)) → Both R l l'
both_at R [] [] e h = nil
both_at R [] (y ∷ l') e h = absurd (omega arith)
both_at R (x ∷ l) [] e h = absurd (omega arith)
both_at R (x ∷ l) (y ∷ l') e h = cons (h 0 (omega arith)) (both_at R l l' (omega arith) (λ j b. h (suc j) (omega arith)))

module _ (N M : ℕ) (h g : Memory) (named : Named N h) (named' : Named M g) (paired : Paired N h M g) where
  -- the pairing, as one of references
  pub record Pair (v v' : ℕ) : Type 0 where
    pub some : v ≢ 0
    pub led : Leads N h (v - 1)
    pub is : v' ≡ suc (paired.to (v - 1))

  one_to_one : OneToOne Pair
  one_to_one = record {
    to = λ {v} {u} {v'} {u'} p q s. p.is ∙ ap (λ (x : ℕ). suc (paired.to (x - 1))) s ∙ sym q.is;
    back = λ {v} {u} {v'} {u'} p q s.
        let same : paired.to (v - 1) ≡ paired.to (u - 1) = omega (arith, p.is, q.is) in
        let firsts : v - 1 ≡ u - 1 = sym (paired.there (v - 1) p.led).1 ∙ ap paired.back same ∙ (paired.there (u - 1) q.led).1 in
        omega (arith, p.some, q.some);
  }

  same_moved : (v v' : ℕ) → (v ≢ 0 → Leads N h (v - 1)) → v' ≡ moved paired.to v → Same Pair v v'
  same_moved v v' led is = elim (ℕ_discrete v 0) [
    | yes z ↦
        let z' : v' ≡ 0 = is ∙ moved_zero paired.to v z in
        rw (z, z') zeros
    | no s ↦
        let whole : v' ≡ suc (paired.to (v - 1)) = omega (arith, moved_some paired.to v s) in
        let some' : v' ≢ 0 = omega arith in
        pair s some' (record { some = s; led = led s; is = whole })
  ]

  roots_same : Both (Same Pair) h.roots g.roots
  roots_same = both_at (Same Pair) h.roots g.roots paired.number
      (λ r l. same_moved (get_or h.roots r 0) (get_or g.roots r 0) (root_led N h named r) (paired.roots r l))

  cells_same : {b : ℕ} → Leads N h b → Both (Same Pair) (references_of N h b) (references_of M g (paired.to b))
  cells_same {b} led =
      let c = paired.to b in
      let size = paired.sizes b led in
      both_at (Same Pair) (references_of N h b) (references_of M g c) (omega (arith, references_length N h b, references_length M g c, size))
      (λ j l.
      let low : j < 4 * size_at N h b = omega (arith, references_length N h b) in
      let low' : j < 4 * size_at M g c = omega (arith, size) in
      rw (references_at N h b j low, references_at M g c j low')
      (same_moved (reference N h (4 * b + j)) (reference M g (4 * c + j)) (cell_led N h named led j low) (paired.references b j led low)))

  followed_same : (v v' : ℕ) → Pair v v' → Both (Same Pair) (followed N h v) (followed M g v')
  followed_same v v' p =
      let whole : v ≡ suc (v - 1) = omega (arith, p.some) in
      subst (λ (x : List ℕ). Both (Same Pair) x (followed M g v')) (sym (ap (followed N h) whole ∙ followed_block N h (v - 1)))
      (subst (λ (x : List ℕ). Both (Same Pair) (references_of N h (v - 1)) x)
      (sym (ap (followed M g) p.is ∙ followed_block M g (paired.to (v - 1)))) (cells_same p.led))

  numbered_same : Both Pair (numbered N h) (numbered M g)
  numbered_same =
      let order : M + N ≡ N + M = omega arith in
      subst (λ (x : List ℕ). Both Pair x (numbered M g)) (walk_more N h named M)
      (subst (λ (x : List ℕ). Both Pair (walk h.roots (followed N h) (M + N)) x)
      (ap (walk g.roots (followed M g)) order ∙ walk_more M g named' N)
      (walk_same one_to_one h.roots g.roots (followed N h) (followed M g) (followed_zero N h) (followed_zero M g) roots_same followed_same
      (M + N)))

  written_alike : {vs vs' : List ℕ} → Both (Same Pair) vs vs' → map (number_in (numbered N h)) vs ≡ map (number_in (numbered M g)) vs'
  written_alike both = written_same one_to_one (numbered_distinct N h named) (numbered_distinct M g named') numbered_same both

  described_to : {b : ℕ} → Leads N h b → described N h (numbered N h) b ≡ described M g (numbered M g) (paired.to b)
  described_to {b} led =
      let c = paired.to b in
      let bit = paired.bits b led in
      let size = paired.sizes b led in
      let kind : is_data g.d c ≡ is_data h.d b = ap (λ (x : ℕ). eqb x 1) bit in
      elim (test_cases_lem (is_data h.d b)) [
        | inl made ↦
            let lists : cells_of N h b ≡ cells_of M g c =
            ext_get_or 0 (cells_of N h b) (cells_of M g c) (omega (arith, cells_length N h b, cells_length M g c, size))
            (λ j l.
            let low : j < 4 * size_at N h b = omega (arith, cells_length N h b) in
            cells_at N h b j low ∙ sym (paired.numbers b j led made low) ∙ sym (cells_at M g c j (omega (arith, size)))) in
            cc (lists, bit, size, described_data N h (numbered N h) b made, described_data M g (numbered M g) c (kind ∙ made))
        | inr other ↦
            let maps = written_alike (cells_same led) in
            cc (maps, bit, size, described_other N h (numbered N h) b other, described_other M g (numbered M g) c (kind ∙ other))
      ]

  described_same : {v v' : ℕ} → Pair v v' → described N h (numbered N h) (v - 1) ≡ described M g (numbered M g) (v' - 1)
  described_same {v} {v'} p =
      let there : paired.to (v - 1) ≡ v' - 1 = omega (arith, p.is) in
      described_to p.led ∙ ap (described M g (numbered M g)) there

  paired_alike : Alike N h M g
  paired_alike = record {
    number = paired.number;
    roots = written_alike roots_same;
    objects = both_length numbered_same;
    each = λ i l. described_same (both_object one_to_one numbered_same (suc i) (omega arith) (omega arith));
  }

  pub paired_equal : shape_of N h ≡ shape_of M g
  paired_equal = alike_equal N M h g paired_alike

pub equal_shape : EqualShape
equal_shape N w h u M v g u' =
    let named = intact_named N w h u in
    let named' = intact_named M v g u' in
    (equal_paired N M h g named named', paired_equal N M h g named named')
