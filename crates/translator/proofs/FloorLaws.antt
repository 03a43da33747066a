-- At some moment a rival has as many registers full and still to be read as the need. Assumes nothing.
use mathlib.Core.Path.{◌≡◌, refl, sym, ap, ◌∙◌}
use mathlib.Core.Logic.{◌≢◌, inl, inr, ⊎_elim}
use mathlib.Core.Bool.{Bool, true, false, true≢false, not, ◌&&◌, ◌||◌, and-true, or-true}
use mathlib.Core.List.{List, [], ◌∷◌, ◌++◌, append_assoc, append-nil}
use mathlib.Core.Option.{Option, none, some, none-ne-some}
use Prim.Native.Nat.{ℕ, zero, suc, ◌+◌, ◌≤◌, ◌<◌, max}
use native.Mathlib.Nat.{not-suc-le-zero}
use native.Mathlib.Decide.{dec_lt, dec_le, ℕ_discrete}
use native.Mathlib.Omega.{arith}
use lib.Dec.{eqb}
use lib.ListN.{length, drop, get_or, set, length-replicate, get_or-eq_default}
use lib.Seq.{get_or-set_other, append_snoc}
use borrow.Author.Tests.{eq-eqb, ne_eqb, eqb-true, ltb-true, lt-ltb}
use Rattle.lists.specs.First.{first}
use Rattle.lists.specs.Below.{map_below}
use Rattle.lists.proofs.Tests.{left-of, right_of, both, one_of, left-fails, right-fails}
use Rattle.circuit.specs.Circuit.{Gate, Circuit, first_gate, references, no_gate}
use Rattle.circuit.specs.Depth.{largest}
use Rattle.circuit.specs.Path.{is_among, is_output, is_operand, is_used}
use Rattle.circuit.proofs.ValidLaws.{among-head, among-tail}
use Rattle.translator.specs.Machine.{Instruction, is_operation}
use Rattle.translator.specs.LiveRange.{is_used_from, is_held_before, is_held_after, is_held_at_end}
use Rattle.translator.specs.Need.{count_below, count_references, held_around, need}
use Rattle.translator.specs.LastUse.{count_distinct}
use Rattle.translator.specs.Shape.{loaded_by}
use Rattle.translator.specs.Written.{is_write, registers_written}
use Rattle.translator.specs.Known.{Known, nothing_known, HoldsReference, known_after, known_from, known_of}
use Rattle.translator.specs.Rival.{Rival}
use Rattle.translator.specs.StillRead.{reads, is_still_read, is_some, is_full, still_to_be_read}
use Rattle.translator.proofs.CountLaws.{count_none, count_same, count-le, count-limit, added-there}
use Rattle.translator.proofs.UseLaws.{used-before, used-later}
use Rattle.translator.proofs.OwnerLaws.{among-append}
use Rattle.translator.proofs.TrimmedLaws.{Trimmed}
use Rattle.translator.proofs.ReadyLaws.{is_ready, ready-input, ready-gate, ready-operands, wanted-end}
use Rattle.translator.proofs.PressureLaws.{largest-last}
use Rattle.translator.proofs.RunLaws.{empty-register}
use Rattle.translator.proofs.WrittenLaws.{written-append}
use Rattle.translator.proofs.KnownLaws.{made_by, registers-after, operations-after, known-append, known-length, makings, makings-append, still-there, input-not-made, gate-made, OperationAt, operation-at}
use Rattle.translator.proofs.RivalLaws.{loaded-append, Parted, rival-parted, operand_read, loads-low}

-- ---- counting: if each reference that passes p is in a register that passes q, as many registers pass

-- whether a register's reference is v
abbrev is_in : Option ℕ → (v : ℕ) → Bool
is_in none v = false
is_in (some w) v = eqb w v

-- one reference at most is in a register
count-without : (p : ℕ → Bool) (w : Option ℕ) (n : ℕ) → count_below p n ≤ suc (count_below (λ v. p v && not (is_in w v)) n)
unfolding count_below
count-without p none n = omega (arith, count-le p (λ v. p v && true) n (λ v e. and-true (p v) ∙ e))
count-without p (some w) zero = omega arith
count-without p (some w) (suc n) = go (p n) (eqb w n) refl refl (count-without p (some w) n)
  where
    go : (a b : Bool) → p n ≡ a → eqb w n ≡ b → count_below p n ≤ suc (count_below (λ v. p v && not (eqb w v)) n)
        → count_below p n + first a 1 0 ≤ suc (count_below (λ v. p v && not (eqb w v)) n + first (a && not b) 1 0)
    go false b e f ih = omega arith
    go true false e f ih = omega arith
    go true true e f ih =
        let others : count_below p n ≡ count_below (λ v. p v && not (eqb w v)) n
        = count_same p (λ v. p v && not (eqb w v)) n
        (λ v l. let ne : w ≢ v = λ q. omega (arith, eqb-true w n f) in sym (ap (λ b. p v && not b) (ne_eqb w v ne) ∙ and-true (p v))) in
        omega arith

count-registers : (rs : List (Option ℕ)) (p q : ℕ → Bool) (n m : ℕ)
    → ((v : ℕ) → v < n → p v ≡ true → (d : ℕ) × (d < m) × (get_or rs d none ≡ some v) × (q d ≡ true)) → count_below p n ≤ count_below q m
unfolding count_below
count-registers rs p q n zero h =
    omega (arith, count_same p (λ v. false) n (λ v l. go v l (p v) refl), count_none (λ v. false) n (λ v. refl))
  where
    go : (v : ℕ) → v < n → (b : Bool) → p v ≡ b → b ≡ false
    go v l true e = absurd (not-suc-le-zero (h v l e).1)
    go v l false e = refl
count-registers rs p q n (suc m) h =
    go (q m) refl (count-registers rs p q n m) (count-registers rs (λ v. p v && not (is_in (get_or rs m none) v)) q n m)
  where
    out : (v : ℕ) → not (is_in (get_or rs m none) v) ≡ true → get_or rs m none ≡ some v → ⊥
    out v e f = true≢false (sym e ∙ ap (λ w. not (is_in w v)) f ∙ ap not (eq-eqb v v refl))

    go : (b : Bool) → q m ≡ b
        → (((v : ℕ) → v < n → p v ≡ true → (d : ℕ) × (d < m) × (get_or rs d none ≡ some v) × (q d ≡ true)) → count_below p n ≤ count_below q m)
        → (((v : ℕ) → v < n → p v && not (is_in (get_or rs m none) v) ≡ true → (d : ℕ) × (d < m) × (get_or rs d none ≡ some v) × (q d ≡ true))
        → count_below (λ v. p v && not (is_in (get_or rs m none) v)) n ≤ count_below q m)
        → count_below p n ≤ count_below q m + first b 1 0
    go false e ih jh =
        let fewer = ih (λ v l t.
        let (d, k, o, r) = h v l t in
        let ne : d ≢ m = λ z. true≢false (sym r ∙ ap q z ∙ e) in
        (d, omega arith, o, r)) in
        omega arith
    go true e ih jh =
        let fewer = jh (λ v l t.
        let (d, k, o, r) = h v l (left-of (p v) (not (is_in (get_or rs m none) v)) t) in
        let ne : d ≢ m = λ z. out v (right_of (p v) (not (is_in (get_or rs m none) v)) t) (ap (λ y. get_or rs y none) (sym z) ∙ o) in
        (d, omega arith, o, r)) in
        omega (arith, count-without p (get_or rs m none) n)

-- ---- registers

module _ (c : Circuit) where
  -- a full register is one that the machine has
  full-below : (limit : ℕ) (xs : List Instruction) (d v : ℕ) → HoldsReference (known_of c limit xs) d v → d < limit
  full-below limit xs d v e =
      let rs = (known_of c limit xs).registers in
      let long : length rs ≡ limit = known-length c xs (nothing_known limit) ∙ length-replicate {A = Option ℕ} limit none in
      elim (dec_lt d limit) [
        | yes l ↦ l
        | no l ↦ absurd (none-ne-some v (sym (get_or-eq_default rs none {n = d} (omega arith)) ∙ e))
      ]

-- ---- a moment of a rival: before the first emit, with `rest` of the loads and operations still to come

module _ (c : Circuit) (k : Trimmed c) (limit : ℕ) (p : List Instruction) (r : Rival c limit p) where
  abbrev start : Known
  start = nothing_known limit

  q : Parted c limit p
  q = rival-parted c limit p r

  abbrev body : List Instruction
  body = q.body

  abbrev emits : List Instruction
  emits = q.emits

  at-moment : (front rest : List Instruction) → body ≡ front ++ rest → p ≡ front ++ (rest ++ emits)
  at-moment front rest e = q.parts ∙ ap (λ xs. xs ++ emits) e ∙ append_assoc front rest emits

  -- what the operation of gate j reads
  read_at : (pre mid : List Instruction) (op : Instruction) (post : List Instruction) → body ≡ pre ++ (mid ++ (op ∷ post)) → is_operation op ≡ true
      → (j : ℕ) → (known_from c (known_of c limit pre) mid).operations ≡ j → (v : ℕ) → is_operand v (get_or c.gates j no_gate) ≡ true
      → (d : ℕ) × HoldsReference (known_from c (known_of c limit pre) mid) d v × (reads op d ≡ true)
  read_at pre mid op post e o j at v u =
      let there = known_of c limit (pre ++ mid) in
      let same : there ≡ known_from c (known_of c limit pre) mid = known-append c pre mid start in
      let whole : p ≡ (pre ++ mid) ++ (op ∷ (post ++ emits))
      = q.parts ∙ ap (λ xs. xs ++ emits) (e ∙ sym (append_assoc pre mid (op ∷ post))) ∙ append_assoc (pre ++ mid) (op ∷ post) emits in
      let number : there.operations ≡ j = ap (λ s. s.operations) same ∙ at in
      let (d, w, t) = operand_read c limit p r.each-allowed (pre ++ mid) op (post ++ emits) whole o v
      (ap (λ y. is_operand v (get_or c.gates y no_gate)) number ∙ u) in
      (d, ap (λ s. get_or s.registers d none) (sym same) ∙ w, t)

  module _ (front rest : List Instruction) (e : body ≡ front ++ rest) where
    abbrev here : Known
    here = known_of c limit front

    at-end : known_of c limit body ≡ known_from c here rest
    at-end = ap (known_of c limit) e ∙ known-append c front rest start

    rest-done : (known_from c here rest).operations ≡ length c.gates
    rest-done = ap (λ s. s.operations) (sym at-end) ∙ q.all_done

    -- what is loaded by some instructions, the rest and the emits
    loaded-around : (v : ℕ) (back : List Instruction)
        → is_among v (loaded_by ((back ++ rest) ++ emits)) ≡ (is_among v (loaded_by back) || is_among v (loaded_by rest)) || is_among v (loaded_by emits)
    loaded-around v back =
        ap (is_among v) (loaded-append (back ++ rest) emits) ∙ among-append v (loaded_by (back ++ rest)) (loaded_by emits)
        ∙ ap (λ b. b || is_among v (loaded_by emits)) (ap (is_among v) (loaded-append back rest) ∙ among-append v (loaded_by back) (loaded_by rest))

    rest-low : (u : ℕ) → is_among u (loaded_by rest) ≡ true → u < first_gate c.inputs
    rest-low u a =
        loads-low c limit p r.each-allowed u
        (ap (λ xs. is_among u (loaded_by xs)) (q.parts ∙ ap (λ xs. xs ++ emits) e) ∙ loaded-around u front ∙ rw (a, or-true (is_among u (loaded_by front))))

    rest-unloaded : (v : ℕ) (back : List Instruction) → is_among v (loaded_by ((back ++ rest) ++ emits)) ≡ false → is_among v (loaded_by rest) ≡ false
    rest-unloaded v back a =
        right-fails (is_among v (loaded_by back)) (is_among v (loaded_by rest))
        (left-fails (is_among v (loaded_by back) || is_among v (loaded_by rest)) (is_among v (loaded_by emits)) (sym (loaded-around v back) ∙ a))

    -- v is in a register still to be read
    abbrev InRegister : (v : ℕ) → Type 0
    InRegister v = (d : ℕ) × HoldsReference here d v × (is_still_read d (rest ++ emits) ≡ true)

    moment-count : (test : ℕ → Bool) → ((v : ℕ) → test v ≡ true → InRegister v) → count_references c test ≤ still_to_be_read c limit front (rest ++ emits)
    unfolding still_to_be_read
    moment-count test h =
        count-registers here.registers test (λ d. is_full here d && is_still_read d (rest ++ emits)) (references c) limit
        (λ v l t.
        let (d, o, read) = h v t in
        (d, full-below c limit front d v o, o, both (ap is_some o) read))

    -- what is ready is not made again
    ready-past : (v : ℕ) → here.operations ≤ length c.gates → is_ready c here.operations here.operations v ≡ true → makings c v here rest ≡ 0
    unfolding known_from
    ready-past v h ready =
        let n = first_gate c.inputs in
        elim (dec_lt v n) [
          | yes l ↦
              let (j, jl, ju) = used-before c here.operations v h (sym (ready-input c here.operations here.operations v l) ∙ ready) in
              let o = operation-at c front start j (omega arith) jl in
              let later = (o.back ++ rest) ++ emits in
              let whole : p ≡ o.front ++ (o.op ∷ later)
              = at-moment front rest e ∙ ap (λ xs. xs ++ (rest ++ emits)) o.parts ∙ append_assoc o.front (o.op ∷ o.back) (rest ++ emits)
              ∙ ap (λ xs. o.front ++ (o.op ∷ xs)) (sym (append_assoc o.back rest emits)) in
              let none_left = r.loaded-before-use o.front o.op later whole o.is-operation v (lt-ltb v n l)
              (ap (λ y. is_operand v (get_or c.gates y no_gate)) o.at ∙ ju) in
              input-not-made c v rest here l (rest-unloaded v o.back none_left)
          | no l ↦
              let lo : n ≤ v = omega arith in
              gate-made c v rest here rest-low lo (ltb-true v (n + here.operations) (sym (ready-gate c here.operations here.operations v lo) ∙ ready))
        ]

    -- what is not made again and used from here on is in a register still to be read
    read-later : (v : ℕ) → makings c v here rest ≡ 0 → is_used_from c here.operations v ≡ true → InRegister v
    unfolding is_still_read
    read-later v m u =
        elim (one_of (is_used v (drop here.operations c.gates)) (is_output c v) u) [
          | inl used ↦
              let (j, jl, jh, ju) = used-later c here.operations v used in
              let o = operation-at c rest here j jl (omega (arith, rest-done)) in
              let there = known_from c here o.front in
              let (d, w, t) = read_at front o.front o.op o.back (e ∙ ap (λ xs. front ++ xs) o.parts) o.is-operation j o.at v ju in
              let sum : makings c v here rest ≡ makings c v here o.front + makings c v there (o.op ∷ o.back)
              = ap (makings c v here) o.parts ∙ makings-append c v o.front (o.op ∷ o.back) here in
              let (held, on) = still-there c o.front here d v (omega arith) w in
              let read : is_still_read d (o.op ∷ (o.back ++ emits)) ≡ true = rw t in
              let apart : rest ++ emits ≡ o.front ++ (o.op ∷ (o.back ++ emits))
              = ap (λ xs. xs ++ emits) o.parts ∙ append_assoc o.front (o.op ∷ o.back) emits in
              (d, held, ap (is_still_read d) apart ∙ on (o.op ∷ (o.back ++ emits)) read)
          | inr out ↦
              let (d, w, t) = q.outputs v out in
              let (held, on) = still-there c rest here d v m (ap (λ s. get_or s.registers d none) (sym at-end) ∙ w) in
              (d, held, on emits t)
        ]

    ready_held : (v : ℕ) → here.operations ≤ length c.gates → is_ready c here.operations here.operations v ≡ true
        → is_used_from c here.operations v ≡ true → InRegister v
    ready_held v h ready u = read-later v (ready-past v h ready) u

  -- ---- the moments of the need

  abbrev Floor : (n : ℕ) → Type 0
  Floor n = (before behind : List Instruction) × (p ≡ before ++ behind) × (n ≤ still_to_be_read c limit before behind)

  module _ (i : ℕ) (h : i < length c.gates) where
    o : OperationAt c body start i
    o = operation-at c body start i (omega arith) (omega (arith, q.all_done))

    abbrev g : Gate
    g = get_or c.gates i no_gate

    before-held : (v : ℕ) → is_held_before c i v ≡ true → InRegister o.front (o.op ∷ o.back) o.parts v
    unfolding is_still_read known_from
    before-held v e =
        let u = right_of (is_ready c (suc i) i v) (is_used_from c i v) e in
        let ready = sym (ready-operands c k i h v) ∙ left-of (is_ready c (suc i) i v) (is_used_from c i v) e in
        let direct : is_operand v g ≡ true → InRegister o.front (o.op ∷ o.back) o.parts v
        = λ t. let (d, w, read) = read_at [] o.front o.op o.back o.parts o.is-operation i o.at v t in (d, w, rw read) in
        elim (one_of (eqb v g.right) (eqb v g.left || is_ready c i i v) ready) [
          | inl t ↦ direct (rw (t, or-true (eqb v g.left)))
          | inr t ↦
              elim (one_of (eqb v g.left) (is_ready c i i v) t) [
                | inl t ↦ direct (rw t)
                | inr t ↦
                    ready_held o.front (o.op ∷ o.back) o.parts v (omega (arith, o.at)) (ap (λ y. is_ready c y y v) o.at ∙ t)
                    (ap (λ y. is_used_from c y v) o.at ∙ u)
              ]
        ]

    floor-before : Floor (count_references c (is_held_before c i))
    floor-before = (
      o.front,
      (o.op ∷ o.back) ++ emits,
      at-moment o.front (o.op ∷ o.back) o.parts,
      moment-count o.front (o.op ∷ o.back) o.parts (is_held_before c i) before-held,
    )

    parts-after : body ≡ (o.front ++ (o.op ∷ [])) ++ o.back
    parts-after = o.parts ∙ sym (append_snoc o.front o.op o.back)

    done-after : (known_of c limit (o.front ++ (o.op ∷ []))).operations ≡ suc i
    unfolding known_from
    done-after =
        let there = known_of c limit o.front in
        let one : first (is_operation o.op) (suc there.operations) there.operations ≡ suc there.operations = rw o.is-operation in
        ap (λ s. s.operations) (known-append c o.front (o.op ∷ []) start) ∙ operations-after c there o.op ∙ one ∙ ap suc o.at

    floor-after : Floor (count_references c (is_held_after c i))
    floor-after =
        let front = o.front ++ (o.op ∷ []) in (
          front,
          o.back ++ emits,
          at-moment front o.back parts-after,
          moment-count front o.back parts-after (is_held_after c i)
              (λ v e.
              ready_held front o.back parts-after v (omega (arith, done-after))
              (ap (λ y. is_ready c y y v) done-after ∙ left-of (is_ready c (suc i) (suc i) v) (is_used_from c (suc i) v) e)
              (ap (λ y. is_used_from c y v) done-after ∙ right_of (is_ready c (suc i) (suc i) v) (is_used_from c (suc i) v) e)),
        )

  floor-end : Floor (count_references c (is_held_at_end c))
  unfolding makings
  floor-end =
      let e : body ≡ body ++ [] = sym (append-nil body) in (
        body,
        emits,
        q.parts,
        moment-count body [] e (is_output c)
            (λ v t. read-later body [] e v refl (ap (λ y. is_used_from c y v) q.all_done ∙ wanted-end c v ∙ t)),
      )

  larger : (a b : ℕ) → Floor a → Floor b → Floor (max a b)
  larger a b x y =
      elim (dec_le a b) [
        | yes l ↦ (y.0, y.1, y.2, omega (arith, y.3))
        | no l ↦ (x.0, x.1, x.2, omega (arith, x.3))
      ]

  floor-gates : (n : ℕ) → n ≤ length c.gates → Floor (largest (map_below (held_around c) n))
  unfolding map_below largest
  floor-gates zero h = ([], p, refl, omega arith)
  floor-gates (suc n) h =
      let most = largest (map_below (held_around c) n) in
      let w = largest-last (map_below (held_around c) n) (held_around c n) in
      let f : Floor (max most (held_around c n))
      = larger most (held_around c n) (floor-gates n (omega arith))
      (larger (count_references c (is_held_before c n)) (count_references c (is_held_after c n)) (floor-before n h) (floor-after n h)) in
      (f.0, f.1, f.2, omega (arith, f.3, w))

  pub floor : Floor (need c)
  unfolding need
  floor =
      larger (largest (map_below (held_around c) (length c.gates))) (count_references c (is_held_at_end c))
      (floor-gates (length c.gates) (omega arith)) floor-end

  -- so the limit is not below it
  pub floor-limit : need c ≤ limit
  unfolding still_to_be_read
  floor-limit =
      let (before, behind, e, h) = floor in
      omega (arith, count-limit (λ d. is_full (known_of c limit before) d && is_still_read d behind) limit)

-- ---- the registers that any program writes

-- a register that is full has been written
full-written : (c : Circuit) (xs : List Instruction) (s : Known) (d v : ℕ) → get_or s.registers d none ≡ none → HoldsReference (known_from c s xs) d v
    → is_among d (registers_written xs) ≡ true
unfolding known_from registers_written
full-written c [] s d v z e = absurd (none-ne-some v (sym z ∙ e))
full-written c (x ∷ xs) s d v z e = go (is_write x) refl (ℕ_discrete d x.arg1) (λ t. full-written c xs (known_after c s x) d v t e)
  where
    after : (b : Bool) → is_write x ≡ b → (known_after c s x).registers ≡ first b (set s.registers x.arg1 (some (made_by c s x))) s.registers
    after b w = registers-after c s x ∙ rw w

    go : (b : Bool) → is_write x ≡ b → Dec (d ≡ x.arg1) → (get_or (known_after c s x).registers d none ≡ none → is_among d (registers_written xs) ≡ true)
        → is_among d (first b (x.arg1 ∷ registers_written xs) (registers_written xs)) ≡ true
    go true w (yes t) ih = rw t (among-head x.arg1 (registers_written xs))
    go true w (no t) ih =
        among-tail d x.arg1 (registers_written xs)
        (ih (ap (λ rs. get_or rs d none) (after true w) ∙ get_or-set_other s.registers x.arg1 d (some (made_by c s x)) none t ∙ z))
    go false w t ih = ih (ap (λ rs. get_or rs d none) (after false w) ∙ z)

full_is : (w : Option ℕ) → is_some w ≡ true → (v : ℕ) × (w ≡ some v)
full_is none e = absurd (true≢false (sym e))
full_is (some v) e = (v, refl)

-- the different numbers of a list, below any n
distinct-below : (os : List ℕ) (n : ℕ) → count_below (λ v. is_among v os) n ≤ count_distinct os
unfolding count_distinct is_among
distinct-below [] n = omega (arith, count_none (λ v. false) n (λ v. refl))
distinct-below (o ∷ os) n = go (is_among o os) refl (distinct-below os n)
  where
    go : (b : Bool) → is_among o os ≡ b → count_below (λ v. is_among v os) n ≤ count_distinct os
        → count_below (λ v. eqb v o || is_among v os) n ≤ first b (count_distinct os) (count_distinct os + 1)
    go true e ih = omega (arith, count_same (λ v. eqb v o || is_among v os) (λ v. is_among v os) n (λ v l. added-there (λ x. is_among x os) o e v))
    go false e ih =
        omega (
          arith,
          count-without (λ v. eqb v o || is_among v os) (some o) n,
          count-le (λ v. (eqb v o || is_among v os) && not (eqb o v)) (λ v. is_among v os) n
              (λ v t.
              ⊎_elim (λ t2. absurd (true≢false (sym (right_of (eqb v o || is_among v os) (not (eqb o v)) t) ∙ ap not (eq-eqb o v (sym (eqb-true v o t2)))))) (λ t2. t2)
              (one_of (eqb v o) (is_among v os) (left-of (eqb v o || is_among v os) (not (eqb o v)) t))),
        )

-- at no moment are more registers full than are written
pub read-written : (c : Circuit) (limit : ℕ) (before behind : List Instruction)
    → still_to_be_read c limit before behind ≤ count_distinct (registers_written (before ++ behind))
unfolding still_to_be_read
read-written c limit before behind =
    let s = known_of c limit before in
    omega (
      arith,
      distinct-below (registers_written (before ++ behind)) limit,
      count-le (λ d. is_full s d && is_still_read d behind) (λ d. is_among d (registers_written (before ++ behind))) limit
          (λ d t.
          let (v, e) = full_is (get_or s.registers d none) (left-of (is_full s d) (is_still_read d behind) t) in
          ap (is_among d) (written-append before behind) ∙ among-append d (registers_written before) (registers_written behind)
          ∙ ap (λ b. b || is_among d (registers_written behind)) (full-written c before (nothing_known limit) d v (empty-register limit d) e)),
    )
