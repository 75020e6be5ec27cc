pub mod Stand
