-- Bytes put into a buffer, one part after another.
use Rattle.std.proofs.Common.{◌≡◌, ℕ, ◌+◌, ◌*◌, ◌<◌, ◌≤◌, List, [], ◌∷◌, ◌++◌, length, get_or, take, drop, sym, refl, ap, ◌∙◌, subst, add-zero, mul-le-mul_left, mul-one, mul-add, arith}
use borrow.Rule.Slice.PartMut.{put_mid}
use Rattle.std.specs.List.{flat_map}
use Rattle.std.proofs.lemmas.List.{append_assoc, take-append-drop, drop-drop, take_at, drop_at, length-append, length-take-le, take_more, flat_map_more}
use Rattle.filing.specs.Filing.{FilingFields}
use Rattle.codec.specs.Fields.{head_field, line_field}
use Rattle.codec.specs.Numbers.{bytes_of}
use Rattle.codec.specs.Table.{head_codes, line_codes, written_version, written_row}
use Rattle.codec.specs.Writing.{pasted, field_bytes, line_bytes, record_of, written, Put}
use Rattle.codec.specs.declared.writer.Output.{Output}

pub put_pasted : (old ys zs : List ℕ) (at k : ℕ) → k ≡ length zs → ys ≡ zs → put_mid at k old ys ≡ pasted old at zs
put_pasted old ys zs at k e y = rw (e, y, drop-drop)

pub pasted_none : (old : List ℕ) (at : ℕ) → pasted old at [] ≡ old
pasted_none old at = rw add-zero (take-append-drop at old)

-- two parts, the second where the first ends
pub pasted_both : (old xs ys : List ℕ) (at n : ℕ) → n ≡ at + length xs → n + length ys ≤ length old → pasted (pasted old at xs) n ys ≡ pasted old at (xs ++ ys)
pasted_both old xs ys at n e h =
    let A : List ℕ = take at old ++ xs in
    let D : List ℕ = drop n old in
    let a : at ≤ length old = omega arith in
    let la : length A ≡ n = length-append (take at old) xs ∙ omega (arith, length-take-le at old a) in
    let q : pasted old at xs ≡ A ++ D = rw (e, append_assoc) in
    let t : take n (pasted old at xs) ≡ A = ap (take n) q ∙ take_at A D n la in
    let d : drop (n + length ys) (pasted old at xs) ≡ drop (n + length ys) old =
    ap (drop (n + length ys)) q ∙ sym (drop-drop (length ys) n (A ++ D)) ∙ ap (drop (length ys)) (drop_at A D n la) ∙ drop-drop (length ys) n old in
    let m : at + length (xs ++ ys) ≡ n + length ys = omega (arith, length-append xs ys) in
    rw (t, d, m, append_assoc (take at old) xs (ys ++ drop (n + length ys) old), append_assoc xs ys (drop (n + length ys) old))

pub length_joined : {X : Type 0} (f : X → List ℕ) (k : ℕ) (each : (x : X) → length (f x) ≡ k) (xs : List X) → length (flat_map f xs) ≡ k * length xs
length_joined f k each [] = omega arith
length_joined f k each (x ∷ xs) = length-append (f x) (flat_map f xs) ∙ omega (arith, each x, length_joined f k each xs, mul-add k 1 (length xs), mul-one k)

-- one more of parts that are equally long
pub pasted_more : {X : Type 0} (f : X → List ℕ) (k : ℕ) (each : (x : X) → length (f x) ≡ k) (old : List ℕ) (at : ℕ) (xs : List X) (i : ℕ) (x : X) (buffer : List ℕ) (end : ℕ)
    → x ≡ get_or xs i x → buffer ≡ pasted old at (flat_map f (take i xs)) → end ≡ at + k * i → i < length xs → at + k * i + k ≤ length old
    → pasted buffer end (f x) ≡ pasted old at (flat_map f (take (i + 1) xs))
pasted_more f k each old at xs i x buffer end is b q h r =
    let l : length (flat_map f (take i xs)) ≡ k * i = length_joined f k each (take i xs) ∙ ap (λ n. k * n) (length-take-le i xs (omega arith)) in
    let j : flat_map f (take i xs) ++ f x ≡ flat_map f (take (i + 1) xs) =
    flat_map_more f [] (take i xs) x ∙ ap (λ y. flat_map f (take i xs ++ y ∷ [])) is ∙ ap (flat_map f) (sym (take_more xs i x h)) in
    let s = pasted_both old (flat_map f (take i xs)) (f x) at end (omega arith) (omega (arith, each x)) in
    ap (λ b. pasted b end (f x)) b ∙ s ∙ ap (pasted old at) j

-- room for one more of n parts of s bytes
pub room_more : (s i n at end room : ℕ) → i < n → at + s * n ≤ room → end ≡ at + s * i → end + s ≤ room
room_more s i n at end room h r e = let m : s * (i + 1) ≤ s * n = mul-le-mul_left s (omega arith) in omega (arith, mul-add s i 1, mul-one s)

-- the four parts of the opening
pub opening_parts : (old b1 b2 b3 b4 v row : List ℕ) (c : ℕ) → length v ≡ 2 → 6 + length row ≤ length old
    → b1 ≡ pasted old 0 (0x4F ∷ 0x42 ∷ 0x46 ∷ []) → b2 ≡ pasted b1 3 v → b3 ≡ pasted b2 5 (c ∷ []) → b4 ≡ pasted b3 6 row
    → b4 ≡ pasted old 0 (0x4F ∷ 0x42 ∷ 0x46 ∷ (v ++ (c ∷ row)))
opening_parts old b1 b2 b3 b4 v row c l h e1 e2 e3 e4 =
    let m : List ℕ = 0x4F ∷ 0x42 ∷ 0x46 ∷ [] in
    let s2 : b2 ≡ pasted old 0 (m ++ v) = e2 ∙ ap (λ b. pasted b 3 v) e1 ∙ pasted_both old m v 0 3 refl (omega arith) in
    let s3 : b3 ≡ pasted old 0 ((m ++ v) ++ (c ∷ [])) = e3 ∙ ap (λ b. pasted b 5 (c ∷ [])) s2 ∙ pasted_both old (m ++ v) (c ∷ []) 0 5 (omega (arith, length-append m v)) (omega arith) in
    let s4 : b4 ≡ pasted old 0 (((m ++ v) ++ (c ∷ [])) ++ row) =
    e4 ∙ ap (λ b. pasted b 6 row) s3 ∙ pasted_both old ((m ++ v) ++ (c ∷ [])) row 0 6 (omega (arith, length-append (m ++ v) (c ∷ []), length-append m v)) (omega arith) in
    s4 ∙ ap (pasted old 0) (append_assoc (m ++ v) (c ∷ []) row ∙ append_assoc m v (c ∷ row))

pub put_is : {a b : Output} {xs ys : List ℕ} → xs ≡ ys → Put a b xs → Put a b ys
put_is {a} {b} e p = subst (λ bs. Put a b bs) e p

pub put_both : {a b c : Output} {xs ys : List ℕ} → Put a b xs → Put b c ys → Put a c (xs ++ ys)
put_both {a} {b} {c} {xs} {ys} p q =
    let r : b.at + length ys ≤ length a.buffer.now = omega (arith, p.long, q.room) in
    record {
      same = q.same ∙ p.same;
      room = omega (arith, length-append xs ys, p.ends);
      long = q.long ∙ p.long;
      wrote = q.wrote ∙ ap (λ o. pasted o b.at ys) p.wrote ∙ pasted_both a.buffer.now xs ys a.at b.at p.ends r;
      ends = omega (arith, length-append xs ys, p.ends, q.ends);
    }

-- room for one more of parts that are equally long, and the part itself
module _ {X : Type 0} (f : X → List ℕ) (k : ℕ) (each : (x : X) → length (f x) ≡ k) (xs : List X) (i : ℕ) {a b : Output} (p : Put a b (flat_map f (take i xs))) (h : i < length xs) where
  so_far : length (flat_map f (take i xs)) ≡ k * i
  so_far = length_joined f k each (take i xs) ∙ ap (λ n. k * n) (length-take-le i xs (omega arith))

  pub put_room : a.at + k * length xs ≤ length a.buffer.now → b.at + k ≤ length b.buffer.now
  put_room r = let m : k * (i + 1) ≤ k * length xs = mul-le-mul_left k (omega arith) in omega (arith, so_far, p.ends, p.long, mul-add k i 1, mul-one k)

  pub put_more : (x : X) {c : Output} → x ≡ get_or xs i x → Put b c (f x) → Put a c (flat_map f (take (i + 1) xs))
  put_more x {c} is q =
      let j : flat_map f (take i xs) ++ f x ≡ flat_map f (take (i + 1) xs) =
      flat_map_more f [] (take i xs) x ∙ ap (λ y. flat_map f (take i xs ++ y ∷ [])) is ∙ ap (flat_map f) (sym (take_more xs i x h)) in
      subst (λ bs. Put a c bs) j (put_both p q)

pub length_fields : (codes : List ℕ) (value : ℕ → ℕ) → length (field_bytes codes value) ≡ 8 * length codes
length_fields codes value = length_joined (λ c. bytes_of 8 (value c)) 8 (λ c. refl) codes

-- a record of four parts, with the sizes that the code measures
module _ (v : ℕ) (row : List ℕ) (f : FilingFields) (heads lines many : ℕ) (hs : heads ≡ 8 * length (head_codes row)) (ls : lines ≡ 8 * length (line_codes row)) (ms : many ≡ length f.lines) where
  abbrev size : ℕ
  size = 6 + length row + heads + 1 + lines * many

  length_heading : length (field_bytes (head_codes row) (head_field f.head)) ≡ heads
  length_heading = length_fields (head_codes row) (head_field f.head) ∙ sym hs

  length_lines : length (flat_map (line_bytes (line_codes row)) f.lines) ≡ lines * many
  length_lines =
      length_joined (line_bytes (line_codes row)) (8 * length (line_codes row)) (λ l. length_fields (line_codes row) (line_field l)) f.lines
      ∙ ap (λ k. k * length f.lines) (sym ls)
      ∙ ap (λ k. lines * k) (sym ms)

  pub length_record : size ≡ length (record_of v row f)
  length_record =
      omega (
        arith,
        length_heading,
        length_lines,
        length-append (field_bytes (head_codes row) (head_field f.head)) (length f.lines ∷ flat_map (line_bytes (line_codes row)) f.lines),
        length-append row (field_bytes (head_codes row) (head_field f.head) ++ (length f.lines ∷ flat_map (line_bytes (line_codes row)) f.lines)),
      )

pub same_record : (v : ℕ) (row : List ℕ) {f g : FilingFields} → v ≡ written_version → row ≡ written_row → f ≡ g → record_of v row f ≡ written g
same_record v row {f} {g} a b c = ap (λ u. record_of u row f) a ∙ ap (λ r. record_of written_version r f) b ∙ ap written c

pub length_written : {v heads lines many : ℕ} {row head line : List ℕ} {f g : FilingFields} → v ≡ written_version → row ≡ written_row → g ≡ f → head ≡ head_codes row → heads ≡ 8 * length head → line ≡ line_codes row → lines ≡ 8 * length line
    → many ≡ length g.lines → 6 + length row + heads + 1 + lines * many ≡ length (written f)
length_written {v} {heads} {lines} {many} {row} {g = g} vs rs fs hc hs lc ls ms =
    length_record v row g heads lines many (hs ∙ ap (λ cs. 8 * length cs) hc) (ls ∙ ap (λ cs. 8 * length cs) lc) ms ∙ ap length (same_record v row vs rs fs)
