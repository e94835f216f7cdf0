-- How an object's header is written and read. Document 01, "Values and objects".
-- A layout gives the rules; all that follows is over any layout, and the library's is `tuple`.
--
--     bit 31      bits 30 to 1      bit 0
--     untraced    n, the fields     0 outside a collection; 1: bits 31 to 1 are the new address
use Rattle.std.specs.Prelude.{ℕ, ◌+◌, ◌*◌, ◌-◌, ◌/◌, ◌%◌, ◌≤◌, ◌<◌, ◌≡◌, Bool, true, false, cond, ltb, eqb}
use Rattle.model.specs.declared.Kind.{Kind}
use Rattle.model.specs.declared.Kind.TheVariants.{Traced, Untraced}
use Rattle.model.specs.Limits.{max_fields}
use Rattle.model.specs.Words.{address_of}

pub record Layout : Type 0 where
  -- the header of an object of a kind with n fields
  pub header : Kind → ℕ → ℕ
  -- a word that is a header and not forwarded
  pub is_header : ℕ → Bool
  -- of such a header: its kind and its field count
  pub kind_of : ℕ → Kind
  pub count_of : ℕ → ℕ
  -- an object's address is that of the word so many words past its header
  pub ahead : ℕ
  -- what a forwarded header holds, of the new address; and the new address again
  pub mark : ℕ → ℕ
  pub unmark : ℕ → ℕ

-- what the layout writes for an object of kind k is a header and reads back
pub record Writes (Y : Layout) (k : Kind) : Type 0 where
  pub clear : (n : ℕ) → n ≤ max_fields → Y.is_header (Y.header k n) ≡ true
  pub counts : (n : ℕ) → n ≤ max_fields → Y.count_of (Y.header k n) ≡ n
  pub kinds : (n : ℕ) → n ≤ max_fields → Y.kind_of (Y.header k n) ≡ k

-- a mark is no header and reads back
pub record Marks (Y : Layout) : Type 0 where
  pub marks : (i : ℕ) → Y.is_header (Y.mark (address_of i)) ≡ false
  pub unmarks : (i : ℕ) → Y.unmark (Y.mark (address_of i)) ≡ address_of i

abbrev pub WritesBoth : Layout → Type 0
WritesBoth Y = (k : Kind) → Writes Y k

-- both kinds are written, and copied objects can be marked
pub record Lawful (Y : Layout) : Type 0 where
  pub writes : WritesBoth Y
  pub forwards : Marks Y

-- an object's address is that of its header or of the word after it, so that it is no code word: `Laws.NoObjectIsCode`
abbrev pub Adjacent : Layout → Type 0
Adjacent Y = Y.ahead ≤ 1

-- a word of 32 bits that is a header is the one that is written for its kind and count
abbrev pub OneHeader : Layout → Type 0
OneHeader Y = (h : ℕ) → h < 4_294_967_296 → Y.is_header h ≡ true → Y.header (Y.kind_of h) (Y.count_of h) ≡ h

abbrev pub bit31 : Kind → ℕ
bit31 Traced = 0
bit31 Untraced = 2_147_483_648

unfoldable pub tuple : Layout
tuple = record {
  header = λ k n. bit31 k + 2 * n;
  is_header = λ h. eqb (h % 2) 0;
  kind_of = λ h. cond (ltb h 2_147_483_648) Traced Untraced;
  count_of = λ h. h / 2 % 1_073_741_824;
  ahead = 0;
  mark = λ a. a + 1;
  unmark = λ m. m - 1;
}
