mod DigitLaws
mod Examples
