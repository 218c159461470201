pub mod Plot
